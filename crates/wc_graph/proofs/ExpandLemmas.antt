-- One way more of a position that is expanded, and where no more positions are analysed.
use Rattle.std.proofs.Common.{ℕ, ◌≡◌, ◌<◌, List, [], ◌∷◌, ◌++◌, map, Option, None, Some, length, refl, sym, ap, subst, ◌∙◌}
use Rattle.std.specs.List.{AllZip, Contains}
use Rattle.std.proofs.lemmas.List.{map-append}
use Rattle.std.proofs.lemmas.List.Elements.{Contains-append_left, Contains-push}
use Rattle.wc_model.proofs.Places.{get_from_contains}
use Rattle.wc_model.specs.Program.Graphs.{IsTargetOf}
use Rattle.wc_model.specs.Program.Positions.{Position}
use Rattle.wc_model.specs.Program.Steps.{Step}
use Rattle.wc_graph.specs.declared.code.Code.{Code}
use Rattle.wc_graph.specs.declared.frames.Frame.{Frame}
use Rattle.wc_graph.specs.declared.frames.Leap.{Leap}
use Rattle.wc_graph.specs.declared.frames.Place.{Place}
use Rattle.wc_graph.specs.declared.frames.Turn.{Turn}
use Rattle.wc_graph.specs.Inner.Numbers.{IsOnce, IsKept}
use Rattle.wc_graph.specs.Inner.Frames.{IsAt, along}
use Rattle.wc_graph.specs.Inner.Codes.{IsCode, HasTarget, IsFound}
use Rattle.wc_graph.specs.Inner.Exploring.{Lands, IsMany, IsFollowed, HasWays, HasTurns, IsFull}
use Rattle.wc_graph.proofs.CodeLemmas.{found_more}
use Rattle.wc_graph.proofs.FrameLemmas.{at_kept, at_once}
use Rattle.wc_graph.proofs.ZipLemmas.{zip_left, zip_length, zip_so, zip_push}

pub target_kept : (ps more : List Position) (target : Option ℕ) (t : Option Position) → IsKept ps more → IsTargetOf ps target t → IsTargetOf more target t
target_kept ps more None t stays is = is
target_kept ps more (Some k) t stays is = (is.0, stays k is.0 is.1, is.2)

pub lands_kept : (ps more : List Position) → IsKept ps more → (leap : Leap) (s : Step) → Lands ps leap s → Lands more leap s
lands_kept ps more stays leap s lands = record { target = target_kept ps more leap.target s.target stays lands.target; taken = lands.taken }

pub many : (steps : Position → List Step) (entry : ℕ) (frames : List Frame) (places : List Place) (ps : List Position) → IsFound steps entry frames places ps → IsOnce frames → IsOnce places → length places ≡ 100001 → IsMany steps entry
many steps entry frames places ps found frames_once once count =
    record {
      many = ps;
      apart = λ i j p at_i at_j.
          let x = zip_left (IsAt entry frames) places ps i p found.placed at_i in
          let y = zip_left (IsAt entry frames) places ps j p found.placed at_j in
          once i j y.0 (x.1 ∙ ap Some (at_once entry frames frames_once x.0 y.0 p x.2 y.2)) y.1;
      count = sym (zip_length (IsAt entry frames) places ps found.placed) ∙ count;
      reached = λ p among. let at = get_from_contains ps p among in found.reached at.0 p at.1;
    }

pub no_turns : (code : Code) (place : Place) → IsCode code → HasTurns code code place [] []
no_turns code place is = record {
  is = is;
  stays = λ k x at. at;
  follows = λ steps entry ps n p has. record { more = ps; stays = λ k x at. at; found = has.found; lands = tt };
}

module _ (old mid new : Code) (place : Place) (turns : List Turn) (leaps : List Leap) (t : Turn) (target : Option ℕ) (has : HasTurns old mid place turns leaps) (leads : HasTarget mid new place t.way target) (inside : place.frame < length mid.frames.keys) where
  pub turn_more : HasTurns old new place (turns ++ t ∷ []) (leaps ++ (record { target = target; taken = t.taken }) ∷ [])
  turn_more = record {
    is = leads.is has.is inside;
    stays = λ k x at. leads.stays k x (has.stays k x at);
    follows = follows;
  }
    where
      follows : (steps : Position → List Step) (entry : ℕ) (ps : List Position) (n : ℕ) (p : Position) → HasWays steps entry old.frames.keys old.places.keys ps place (turns ++ t ∷ []) n p → IsFollowed steps entry new.frames.keys new.places.keys ps (leaps ++ (record { target = target; taken = t.taken }) ∷ []) (map (along p) (turns ++ t ∷ []))
      follows steps entry ps n p ways =
          let before : IsFollowed steps entry mid.frames.keys mid.places.keys ps leaps (map (along p) turns) = has.follows steps entry ps n p (record { found = ways.found; numbered = ways.numbered; at = ways.at; ways = λ u among. ways.ways u (Contains-append_left turns (t ∷ []) u among) }) in
          let further = found_more steps entry mid.frames.keys new.frames.keys mid.places.keys new.places.keys before.more place t.way before.found n p (along p t) (before.stays n p ways.numbered) (at_kept entry old.frames.keys mid.frames.keys has.stays place p ways.at) (ways.ways t (Contains-push turns t)) refl target leads in
          record {
            more = further.more;
            stays = λ k x at. further.stays k x (before.stays k x at);
            found = further.found;
            lands = subst (λ (xs : List Step). AllZip (Lands further.more) (leaps ++ (record { target = target; taken = t.taken }) ∷ []) xs) (sym (map-append (along p) turns (t ∷ []))) (zip_push (Lands further.more) leaps (map (along p) turns) (record { target = target; taken = t.taken }) (along p t) (zip_so (Lands before.more) (Lands further.more) (lands_kept before.more further.more further.stays) leaps (map (along p) turns) before.lands) (record { target = further.leads; taken = refl }));
          }

-- where one position too many was found on some of the ways
pub full : (old new : Code) (place : Place) (turns some : List Turn) (leaps : List Leap) → HasTurns old new place some leaps → ((t : Turn) → Contains some t → Contains turns t) → length new.places.keys ≡ 100001 → IsFull old place turns
full old new place turns some leaps has among count steps entry ps n p ways =
    let followed = has.follows steps entry ps n p (record { found = ways.found; numbered = ways.numbered; at = ways.at; ways = λ t is. ways.ways t (among t is) }) in
    many steps entry new.frames.keys new.places.keys followed.more followed.found has.is.frames_are.once has.is.once count
