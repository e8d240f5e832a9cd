-- What a text of the grammar states, and nothing else, is read of it.
use Rattle.std.proofs.Common.{◌≡◌, ℕ, List, [], ◌∷◌, ◌++◌, Result, Ok, Err, refl, sym, ap, ◌∙◌, subst, append_assoc}
use Rattle.std.proofs.lemmas.List.{map-append}
use Rattle.wc_base.specs.declared.faults.Fault.{Fault}
use Rattle.wc_base.specs.declared.troubles.Trouble.{Trouble}
use Rattle.wc_base.specs.declared.troubles.Trouble.TheVariants.{Fault as Refused, Memory}
use Rattle.wc_model.specs.declared.flow_facts.Fact.{Fact}
use Rattle.wc_f4.specs.Grammar.{IsWhole, Names, Wanted, any, one}
use Rattle.wc_f4.specs.Places.{Answer, answer}
use Rattle.wc_f4.specs.Reading.{GivesBack, IsFirstWrong, ReadsFacts, ReadsOne}
use Rattle.wc_f4.specs.Tokens.{Placed, Token, placed_tokens, tokens_of}
use Rattle.wc_f4.proofs.Acceptance.{first_of, later_of, whole_accepted}

never_wrong : (wanted : Wanted) (names : Names) (text : List ℕ) (fault : Fault) (fs : List Fact) → IsWhole wanted names (tokens_of (placed_tokens text)) fs → IsFirstWrong wanted names text fault → ⊥
never_wrong wanted names text fault fs is wrong =
    let tokens : tokens_of (placed_tokens text) ≡ (tokens_of wrong.front ++ wrong.token ∷ []) ++ tokens_of wrong.behind =
    ap tokens_of wrong.tokens ∙ map-append (λ (x : Placed). x.0) wrong.front ((wrong.token, wrong.place) ∷ wrong.behind) ∙ sym (append_assoc (tokens_of wrong.front) (wrong.token ∷ []) (tokens_of wrong.behind)) in
    wrong.wrong (tokens_of wrong.behind, fs, subst (λ (ts : List Token). IsWhole wanted names ts fs) tokens is)

same_facts : (wanted : Wanted) (names : Names) (text : List ℕ) (fs gs : List Fact) → IsWhole wanted names (tokens_of (placed_tokens text)) fs → IsWhole wanted names (tokens_of (placed_tokens text)) gs
    → ◌≡◌ {A = Answer} (Ok gs) (Ok fs)
same_facts wanted names text fs gs first second =
    let one_way : answer names (later_of wanted) (first_of wanted) [] (placed_tokens text) ≡ Ok fs = whole_accepted wanted names (tokens_of (placed_tokens text)) fs first (placed_tokens text) refl in
    let other_way : answer names (later_of wanted) (first_of wanted) [] (placed_tokens text) ≡ Ok gs = whole_accepted wanted names (tokens_of (placed_tokens text)) gs second (placed_tokens text) refl in
    sym other_way ∙ one_way

pub gives_back : (names : Names) (fact : Fact) (text : List ℕ) (read : Result Fact Trouble) → IsWhole one names (tokens_of (placed_tokens text)) (fact ∷ []) → ReadsOne names text read → GivesBack fact read
gives_back names fact text (Ok other) is reads = let same = same_facts one names text (fact ∷ []) (other ∷ []) is reads in cc
gives_back names fact text (Err (Memory e)) is reads = tt
gives_back names fact text (Err (Refused fault)) is wrong = never_wrong one names text fault (fact ∷ []) is wrong

pub gives_all : (names : Names) (facts : List Fact) (text : List ℕ) (read : Result (List Fact) Trouble) → IsWhole any names (tokens_of (placed_tokens text)) facts → ReadsFacts names text read → GivesBack facts read
gives_all names facts text (Ok others) is reads = let same = same_facts any names text facts others is reads in cc
gives_all names facts text (Err (Memory e)) is reads = tt
gives_all names facts text (Err (Refused fault)) is wrong = never_wrong any names text fault facts is wrong
