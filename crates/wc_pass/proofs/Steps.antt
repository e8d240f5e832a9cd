-- Each kind of step keeps the rule.
use Rattle.std.proofs.Common.{◌≡◌, ◌≢◌, ℕ, Bool, cond, inl, inr, zero, suc, ◌+◌, ◌≤◌, true, false, List, [], ◌∷◌, ◌++◌, length, set, get_or, refl, sym, ap, ◌∙◌, subst, length-append, arith}
use Rattle.std.proofs.lemmas.List.{append-nil}
use Rattle.std.proofs.lemmas.Bool.Decides.{leb_tells}
use mathlib.Core.Option.{some}
use lib.ListN.{get_elem?}
use Rattle.atomic_table.specs.Table.{State, Me, Allows, Splits, Joins, keeps}
use Rattle.atomic_table.proofs.Lists.{at_last, set_else, set_here}
use Rattle.wc_model.specs.declared.entries.Entry.{Entry}
use Rattle.wc_model.specs.Workspace.Entries.{session_of, entries_of}
use Rattle.wc_pass.specs.declared.views.View.{View}
use Rattle.wc_pass.specs.Known.{IsPrefix, longer}
use Rattle.wc_pass.specs.Rule.{AreOutgrown, Learned, Fits, Kept}
use Rattle.wc_pass.specs.Views.{first_view, spent_view, added, cleared, one_more, new_pass, copy_of, without_role, role_of, mine, other, with_copy, with_role}
use Rattle.wc_pass.proofs.Prefixes.{prefix_refl, prefix_more, prefix_shorter, entries_of_other, entries_of_between}
use Rattle.wc_pass.proofs.Seats.{at_below, each_set, each_snoc, there_set, there_else, there_snoc, not_pen, apart_set, apart_spent, apart_snoc}

abbrev pub Rule : State (Unit {0}) View → Type 0
Rule s = Kept s.words s.views

pub first_kept : Kept (0 ∷ []) (first_view ∷ [])
first_kept = record {
  pen = 0;
  log = [];
  made = 0;
  word = refl;
  there = (first_view, refl, refl);
  each = each_snoc (Fits 0 [] 0) [] first_view (record { writes = λ _. (refl, refl, refl); begins = ([], refl); whole = λ some. absurd (some refl); olds = tt }) (λ j v at. absurd (nothing j v at));
  apart = λ j k v w at_j at_k some e. absurd (some (zero_session j v at_j));
}
  where
    nothing : (j : ℕ) (v : View) → get_elem? {A = View} [] j ≡ some v → ⊥
    nothing j v at = let below = at_below [] j v at in omega arith

    zero_session : (j : ℕ) (v : View) → get_elem? (first_view ∷ []) j ≡ some v → v.session ≡ 0
    zero_session = each_snoc (λ j v. v.session ≡ 0) [] first_view refl (λ j v at. absurd (nothing j v at))

-- a store

fits_more : (pen : ℕ) (log : List Entry) (made seat : ℕ) (w : View) (e : Entry) → seat ≢ pen → (w.session ≢ 0 → session_of e ≢ w.session)
    → Fits pen log made seat w → Fits pen (log ++ e ∷ []) made seat w
fits_more pen log made seat w e ne differs f = record {
  writes = λ p. absurd (ne (f.writes p).0);
  begins = prefix_more w.seen log e f.begins;
  whole = λ some. ((f.whole some).0, entries_of_other w.session log e (differs some) ∙ (f.whole some).1);
  olds = f.olds;
}

fits_added : (pen : ℕ) (log : List Entry) (made seat : ℕ) (v : View) (e : Entry) → v.pen ≡ true → v.olds ≡ [] → Fits pen log made seat v → Fits pen (log ++ e ∷ []) made seat (added v e)
fits_added pen log made seat v e is_pen none f =
    let w = f.writes is_pen in
    let longer_log : v.seen ++ e ∷ [] ≡ log ++ e ∷ [] = ap (λ (z : List Entry). z ++ e ∷ []) w.1 in
    record {
      writes = λ _. (w.0, longer_log, w.2);
      begins = ([], sym (append-nil (v.seen ++ e ∷ []) ∙ longer_log));
      whole = λ some. ((f.whole some).0, sym (ap (entries_of v.session) longer_log));
      olds = subst (AreOutgrown (v.seen ++ e ∷ []) v.session) (sym none) tt;
    }

pub adds : (slots id : ℕ) (me : Me (Unit {0}) View) (e : Entry) (n : ℕ) → me.0.pen ≡ true → me.0.olds ≡ [] → session_of e ≡ me.0.session → length me.0.seen + 1 ≡ n
    → Allows Rule slots id me 0 (λ _. n) (λ _ w. w ≡ (added me.0 e, me.1))
adds slots id me e n is_pen none whose size s h len at bound =
    let fit = h.each id me.0 at in
    let w = fit.writes is_pen in
    let count : n ≡ length (h.log ++ e ∷ []) = omega (arith, ap length w.1, length-append h.log (e ∷ [])) in (
      added me.0 e,
      keeps,
      tt,
      record {
        pen = h.pen;
        log = h.log ++ e ∷ [];
        made = h.made;
        word = ap (λ (ws : List ℕ). set ws 0 n) h.word ∙ ap (λ (k : ℕ). k ∷ []) count;
        there = there_set s.views h.pen id me.0 (added me.0 e) at refl h.there;
        each = each_set (Fits h.pen (h.log ++ e ∷ []) h.made) s.views id (added me.0 e) (fits_added h.pen h.log h.made id me.0 e is_pen none fit)
            (λ j v ne at_j. fits_more h.pen h.log h.made j v e (λ z. ne (z ∙ sym w.0)) (λ some z. ne (sym (h.apart id j me.0 v at at_j (λ y. some (sym z ∙ whose ∙ y)) (sym whose ∙ z)))) (h.each j v at_j));
        apart = apart_set s.views id me.0 (added me.0 e) at refl h.apart;
      },
      refl,
    )

-- a load

fits_cleared : (pen : ℕ) (log : List Entry) (made seat : ℕ) (v : View) → Fits pen log made seat v → Fits pen log made seat (cleared v)
fits_cleared pen log made seat v f = record { writes = f.writes; begins = f.begins; whole = f.whole; olds = tt }

pub loads : (slots id : ℕ) (me : Me (Unit {0}) View) → Allows Rule slots id me 0 (λ n. n) (λ _ w. (w ≡ (cleared me.0, me.1)) × Learned me.0)
loads slots id me s h len at bound =
    let fit = h.each id me.0 at in (
      cleared me.0,
      keeps,
      tt,
      record {
        pen = h.pen;
        log = h.log;
        made = h.made;
        word = ap (λ (ws : List ℕ). set ws 0 (get_or ws 0 0)) h.word;
        there = there_set s.views h.pen id me.0 (cleared me.0) at refl h.there;
        each = each_set (Fits h.pen h.log h.made) s.views id (cleared me.0) (fits_cleared h.pen h.log h.made id me.0 fit) (λ j v ne at_j. h.each j v at_j);
        apart = apart_set s.views id me.0 (cleared me.0) at refl h.apart;
      },
      (refl, fit.olds),
    )

-- splits

length_set : (views : List View) (id : ℕ) (w : View) → length (set views id w) ≡ length views
length_set [] id w = refl
length_set (x ∷ xs) zero w = refl
length_set (x ∷ xs) (suc id) w = ap suc (length_set xs id w)

fits_made : (pen : ℕ) (log : List Entry) (made seat : ℕ) (v : View) → seat ≢ pen → Fits pen log made seat v → Fits pen log (made + 1) seat v
fits_made pen log made seat v ne f = record {
  writes = λ p. absurd (ne (f.writes p).0);
  begins = f.begins;
  whole = λ some. (let le = (f.whole some).0 in omega arith, (f.whole some).1);
  olds = f.olds;
}

pub splits_pass : (id : ℕ) (v : View) → v.pen ≡ true → Splits Rule id v (one_more v) (new_pass v)
splits_pass id v is_pen s h at =
    let fit = h.each id v at in
    let w = fit.writes is_pen in
    let made_is : v.made ≡ h.made = w.2 in
    let changed = set s.views id (one_more v) in
    let each_changed = each_set (Fits h.pen h.log (h.made + 1)) s.views id (one_more v)
    (record { writes = λ _. (w.0, w.1, omega arith); begins = fit.begins; whole = λ some. (let le = (fit.whole some).0 in omega arith, (fit.whole some).1); olds = fit.olds })
    (λ j u ne at_j. fits_made h.pen h.log h.made j u (λ z. ne (z ∙ sym w.0)) (h.each j u at_j)) in
    record {
      pen = h.pen;
      log = h.log;
      made = h.made + 1;
      word = h.word;
      there = there_snoc changed h.pen (new_pass v) (there_set s.views h.pen id v (one_more v) at refl h.there);
      each = each_snoc (Fits h.pen h.log (h.made + 1)) changed (new_pass v)
          (record { writes = λ p. absurd (cc); begins = fit.begins; whole = λ some. (omega arith, ap (entries_of (v.made + 1)) (sym w.1)); olds = tt }) each_changed;
      apart = apart_snoc changed (new_pass v)
          (λ j u at_j some z. each_set (λ j u. u.session ≢ 0 → u.session ≡ v.made + 1 → ⊥) s.views id (one_more v)
          (λ some z. let le = (fit.whole some).0 in omega arith) (λ j u ne at_j some z. let le = ((h.each j u at_j).whole some).0 in omega arith) j u at_j some z)
          (apart_set s.views id v (one_more v) at refl h.apart);
    }

same_again : (views : List View) (id : ℕ) (v : View) → get_elem? views id ≡ some v → (P : ℕ → View → Type 0) → ((j : ℕ) (u : View) → get_elem? views j ≡ some u → P j u)
    → (j : ℕ) (u : View) → get_elem? (set views id v) j ≡ some u → P j u
same_again views id v at P each = each_set P views id v (each id v at) (λ j u ne at_j. each j u at_j)

pub splits_copy : (id : ℕ) (v : View) → Splits Rule id v v (copy_of v)
splits_copy id v s h at =
    let fit = h.each id v at in
    let changed = set s.views id v in
    record {
      pen = h.pen;
      log = h.log;
      made = h.made;
      word = h.word;
      there = there_snoc changed h.pen (copy_of v) (there_set s.views h.pen id v v at refl h.there);
      each = each_snoc (Fits h.pen h.log h.made) changed (copy_of v)
          (record { writes = λ p. absurd (cc); begins = fit.begins; whole = λ some. absurd (some refl); olds = tt })
          (same_again s.views id v at (Fits h.pen h.log h.made) h.each);
      apart = apart_snoc changed (copy_of v) (λ j u at_j some z. some z) (apart_set s.views id v v at refl h.apart);
    }

pub splits_role : (id : ℕ) (v : View) → v.pen ≡ true → Splits Rule id v (without_role v) (role_of v)
splits_role id v is_pen s h at =
    let fit = h.each id v at in
    let w = fit.writes is_pen in
    let changed = set s.views id (without_role v) in
    let end : length changed ≡ length s.views = length_set s.views id (without_role v) in
    record {
      pen = length changed;
      log = h.log;
      made = h.made;
      word = h.word;
      there = (role_of v, at_last changed (role_of v) (length changed) refl, refl);
      each = each_snoc (Fits (length changed) h.log h.made) changed (role_of v)
          (record { writes = λ _. (refl, w.1, w.2); begins = fit.begins; whole = λ some. absurd (some refl); olds = tt })
          (each_set (Fits (length changed) h.log h.made) s.views id (without_role v)
          (record { writes = λ p. absurd (cc); begins = fit.begins; whole = fit.whole; olds = fit.olds })
          (λ j u ne at_j. let f = h.each j u at_j in record { writes = λ p. absurd (ne ((f.writes p).0 ∙ sym w.0)); begins = f.begins; whole = f.whole; olds = f.olds }));
      apart = apart_snoc changed (role_of v) (λ j u at_j some z. some z) (apart_set s.views id v (without_role v) at refl h.apart);
    }

-- joins

-- what a copy teaches
fits_with_copy : (pen : ℕ) (log : List Entry) (made seat : ℕ) (v : View) (seen : List Entry) → v.pen ≡ false → IsPrefix seen log → Fits pen log made seat v
    → (long : List Entry) → IsPrefix v.seen long → IsPrefix seen long → IsPrefix long log
    → Fits pen log made seat (record v { seen = long; olds = mine v.seen ∷ other seen ∷ [] })
fits_with_copy pen log made seat v seen reads begins f long own others within =
    let between : v.session ≢ 0 → entries_of v.session long ≡ entries_of v.session v.seen = λ some. entries_of_between v.session v.seen long log own within (f.whole some).1 in
    record {
      writes = λ p. absurd (let both : true ≡ false = sym p ∙ reads in cc);
      begins = within;
      whole = λ some. ((f.whole some).0, (f.whole some).1 ∙ sym (between some));
      olds = ((own, λ _ some. between some), ((others, λ z. absurd (cc)), tt));
    }

spent_fits : (pen : ℕ) (log : List Entry) (made seat : ℕ) → Fits pen log made seat spent_view
spent_fits pen log made seat = record { writes = λ p. absurd (cc); begins = (log, refl); whole = λ some. absurd (some refl); olds = tt }

by_length : (a b : List Entry) (P : List Entry → Type 0) → (length b ≤ length a → P a) → (length a ≤ length b → P b) → P (longer a b)
by_length a b P first second =
    elim (leb_tells (length b) (length a)) [
      | inl t ↦ subst (λ (c : Bool). P (cond c a b)) (sym t.0) (first t.1)
      | inr t ↦ subst (λ (c : Bool). P (cond c a b)) (sym t.0) (second (let below = t.1 in omega arith))
    ]

pub joins_copy : (id : ℕ) (v : View) (from : ℕ) (w : View) → v.pen ≡ false → w.pen ≡ false → Joins Rule id v from w (with_copy v w) spent_view
joins_copy id v from w reads reads_too s h at ne at_from =
    let both = with_copy v w in
    let changed = set s.views id both in
    let fit = h.each id v at in
    let at_w : get_elem? s.views from ≡ some w = sym (set_else s.views id from both ne) ∙ at_from in
    let copied = h.each from w at_w in
    let here : Fits h.pen h.log h.made id both =
    by_length v.seen w.seen (λ long. Fits h.pen h.log h.made id (record v { seen = long; olds = mine v.seen ∷ other w.seen ∷ [] }))
    (λ le. fits_with_copy h.pen h.log h.made id v w.seen reads copied.begins fit v.seen (prefix_refl v.seen) (prefix_shorter w.seen v.seen h.log copied.begins fit.begins le) fit.begins)
    (λ le. fits_with_copy h.pen h.log h.made id v w.seen reads copied.begins fit w.seen (prefix_shorter v.seen w.seen h.log fit.begins copied.begins le) (prefix_refl w.seen) copied.begins) in
    record {
      pen = h.pen;
      log = h.log;
      made = h.made;
      word = h.word;
      there = there_else changed h.pen from spent_view (not_pen s.views h.pen from w at_w reads_too h.there) (there_else s.views h.pen id both (not_pen s.views h.pen id v at reads h.there) h.there);
      each = each_set (Fits h.pen h.log h.made) changed from spent_view (spent_fits h.pen h.log h.made from)
          (λ j u other_seat at_j. each_set (Fits h.pen h.log h.made) s.views id both here (λ j u ne at_j. h.each j u at_j) j u at_j);
      apart = apart_spent changed from spent_view refl (apart_set s.views id v both at refl h.apart);
    }

pub joins_role : (id : ℕ) (v : View) (from : ℕ) (w : View) → v.pen ≡ false → w.pen ≡ true → Joins Rule id v from w (with_role v w) spent_view
joins_role id v from w reads writes s h at ne at_from =
    let both = with_role v w in
    let changed = set s.views id both in
    let fit = h.each id v at in
    let at_w : get_elem? s.views from ≡ some w = sym (set_else s.views id from both ne) ∙ at_from in
    let role = (h.each from w at_w).writes writes in
    let begins : IsPrefix w.seen h.log = ([], sym (append-nil w.seen ∙ role.1)) in
    let own : IsPrefix v.seen w.seen = subst (λ (z : List Entry). IsPrefix v.seen z) (sym role.1) fit.begins in
    let whole : v.session ≢ 0 → (v.session ≤ h.made) × (entries_of v.session h.log ≡ entries_of v.session w.seen) = λ some. ((fit.whole some).0, ap (entries_of v.session) (sym role.1)) in
    let known : v.session ≢ 0 → entries_of v.session w.seen ≡ entries_of v.session v.seen = λ some. ap (entries_of v.session) role.1 ∙ (fit.whole some).1 in
    let here : Fits id h.log h.made id both = record { writes = λ _. (refl, role.1, role.2); begins = begins; whole = whole; olds = ((own, λ _ some. known some), tt) } in
    record {
      pen = id;
      log = h.log;
      made = h.made;
      word = h.word;
      there = (both, set_else changed from id spent_view (λ z. ne (sym z)) ∙ set_here s.views id both (at_below s.views id v at), refl);
      each = each_set (Fits id h.log h.made) changed from spent_view (spent_fits id h.log h.made from)
          (λ j u other_seat at_j. each_set (λ j u. j ≢ from → Fits id h.log h.made j u) s.views id both (λ _. here)
          (λ j u ne at_j differs. let f = h.each j u at_j in record { writes = λ p. absurd (differs ((f.writes p).0 ∙ sym role.0)); begins = f.begins; whole = f.whole; olds = f.olds }) j u at_j other_seat);
      apart = apart_spent changed from spent_view refl (apart_set s.views id v both at refl h.apart);
    }
