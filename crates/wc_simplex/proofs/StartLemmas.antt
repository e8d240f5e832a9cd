-- The rows that the machine starts from, by the lines of the system.
use Rattle.std.proofs.Common.{◌≡◌, ℕ, zero, suc, ◌+◌, ◌-◌, ◌<◌, ◌≤◌, ◌==◌, ℤ, pos, negsuc, ◌+ℤ◌, ◌-ℤ◌, ◌*ℤ◌, neg_ℤ, ◌≤ℤ◌, ◌<ℤ◌, Bool, true, false, if◌then◌else◌, List, [], ◌∷◌, ◌++◌, map, get_or, replicate, length, Option, None, Some, option_and_then, option_map, refl, sym, ap, ap₂, subst, ◌∙◌, arith}
use Rattle.std.specs.List.{range_with_len}
use Rattle.std.proofs.lemmas.Int.{ints}
use Rattle.std.proofs.lemmas.List.{length-append, length-map, length-replicate}
use Rattle.std.proofs.lemmas.List.FromFn.{length-range_with_len}
use Rattle.std.proofs.lemmas.Option.{same_Some}
use Rattle.wc_model.specs.declared.flow_system.System.{System}
use Rattle.wc_model.specs.Flow.Exact.{each_of, negate_exact}
use Rattle.wc_model.specs.Flow.RowMachine.{entry, is_negative}
use Rattle.wc_model.specs.Flow.Tableaus.{Half, Line, column_entry, half, half_of, halves, one_if, slack_entries, unit_row}
use Rattle.wc_simplex.specs.Solutions.{weighs}
use Rattle.wc_simplex.proofs.ChoosingLemmas.{not_negative}
use Rattle.wc_simplex.proofs.ExactLemmas.{kept_is}
use Rattle.wc_simplex.proofs.HalfLemmas.{halves_cons, line_half}
use Rattle.wc_simplex.proofs.TurningLemmas.{negated_entry, negated_weighs, negated_width}

abbrev pub turn : Bool → ℤ → ℤ
turn true z = neg_ℤ z
turn false z = z

-- a row before its artificial column, of a line
pub record IsHalf (s : System) (columns : List (List ℕ)) (slacks own : ℕ) (l : Line) (h : Half) : Type 0 where
  pub entries : List ℤ
  pub are : each_of (column_entry s l) columns ≡ Some entries
  pub wide : length h.real ≡ length columns + slacks
  pub real : (m : ℕ) → entry h.real m ≡ turn h.negated (entry (entries ++ slack_entries slacks own l.slack) m)
  pub weighed : (c : ℕ → ℤ) (k : ℕ) → weighs c k h.real ≡ turn h.negated (weighs c k (entries ++ slack_entries slacks own l.slack))
  pub side : h.side ≡ turn h.negated l.side
  pub some : pos 0 ≤ℤ h.side

abbrev pub AreHalves : System → List (List ℕ) → ℕ → ℕ → List Line → List Half → Type 0
AreHalves s columns slacks own [] [] = Unit {0}
AreHalves s columns slacks own [] (h ∷ hs) = ⊥
AreHalves s columns slacks own (l ∷ ls) [] = ⊥
AreHalves s columns slacks own (l ∷ ls) (h ∷ hs) = IsHalf s columns slacks own l h × AreHalves s columns slacks (if l.slack then suc own else own) ls hs

pub each_length : {X Y : Type 0} (f : X → Option Y) (xs : List X) (ys : List Y) → each_of f xs ≡ Some ys → length ys ≡ length xs
each_length f [] ys is = ap length (sym (same_Some [] ys is))
each_length {X} {Y} f (x ∷ xs) ys is = by (f x) (each_of f xs) refl (λ zs p. each_length f xs zs p) is
  where
    by : (o : Option Y) (l : Option (List Y)) → each_of f xs ≡ l → ((zs : List Y) → each_of f xs ≡ Some zs → length zs ≡ length xs) → option_and_then (λ z. option_map (λ zs. z ∷ zs) l) o ≡ Some ys → length ys ≡ suc (length xs)
    by None l p go e = absurd (cc)
    by (Some z) None p go e = absurd (cc)
    by (Some z) (Some zs) p go e = ap length (sym (same_Some (z ∷ zs) ys e)) ∙ ap suc (go zs p)

slack_wide : (slacks own : ℕ) (b : Bool) → length (slack_entries slacks own b) ≡ slacks
slack_wide slacks own true = length-map (range_with_len 0 slacks) (λ k. one_if (k == own)) ∙ length-range_with_len 0 slacks
slack_wide slacks own false = length-replicate slacks (pos 0)

below_turned : (x y : ℤ) → is_negative x ≡ true → negate_exact x ≡ Some y → (y ≡ neg_ℤ x) × (pos 0 ≤ℤ y)
below_turned x y below is =
    let same = (kept_is (pos 0 -ℤ x) y is).0 in
    by x below same
  where
    by : (z : ℤ) → is_negative z ≡ true → pos 0 -ℤ z ≡ y → (y ≡ neg_ℤ z) × (pos 0 ≤ℤ y)
    by (pos n) b e = absurd (cc)
    by (negsuc n) b e = (omega (arith, ints, e), omega (arith, ints, e))

module _ (s : System) (columns : List (List ℕ)) (slacks own : ℕ) (l : Line) (h : Half) (entries : List ℤ) (are : each_of (column_entry s l) columns ≡ Some entries) where
  row_wide : length (entries ++ slack_entries slacks own l.slack) ≡ length columns + slacks
  row_wide = length-append entries (slack_entries slacks own l.slack) ∙ ap₂ (λ m n. m + n) (each_length (column_entry s l) columns entries are) (slack_wide slacks own l.slack)

  half_by : (b : Bool) → is_negative l.side ≡ b → (o : Option (List ℤ)) → each_of negate_exact (entries ++ slack_entries slacks own l.slack) ≡ o → (p : Option ℤ) → negate_exact l.side ≡ p
      → (if b then option_and_then (λ turned. option_map (λ right. half turned right true) p) o else Some (half (entries ++ slack_entries slacks own l.slack) l.side false)) ≡ Some h → IsHalf s columns slacks own l h
  half_by true below None q p r e = absurd (cc)
  half_by true below (Some turned) q None r e = absurd (cc)
  half_by true below (Some turned) q (Some right) r e =
      let same : half turned right true ≡ h = same_Some (half turned right true) h e in
      let side = below_turned l.side right below r in
      subst (λ (x : Half). IsHalf s columns slacks own l x) same
      (record {
        entries = entries;
        are = are;
        wide = negated_width (entries ++ slack_entries slacks own l.slack) turned q ∙ row_wide;
        real = λ m. negated_entry (entries ++ slack_entries slacks own l.slack) turned m q;
        weighed = λ c k. negated_weighs c k (entries ++ slack_entries slacks own l.slack) turned q;
        side = side.0;
        some = side.1;
      })
  half_by false above o q p r e =
      let same : half (entries ++ slack_entries slacks own l.slack) l.side false ≡ h = same_Some (half (entries ++ slack_entries slacks own l.slack) l.side false) h e in
      subst (λ (x : Half). IsHalf s columns slacks own l x) same
      (record { entries = entries; are = are; wide = row_wide; real = λ m. refl; weighed = λ c k. refl; side = refl; some = not_negative l.side above })

half_is : (s : System) (columns : List (List ℕ)) (slacks own : ℕ) (l : Line) (h : Half) → line_half s columns slacks own l ≡ Some h → IsHalf s columns slacks own l h
half_is s columns slacks own l h is = at (each_of (column_entry s l) columns) refl is
  where
    at : (o : Option (List ℤ)) → each_of (column_entry s l) columns ≡ o → option_and_then (λ entries. half_of l.side (entries ++ slack_entries slacks own l.slack)) o ≡ Some h → IsHalf s columns slacks own l h
    at None p e = absurd (cc)
    at (Some entries) p e =
        half_by s columns slacks own l h entries p (is_negative l.side) refl (each_of negate_exact (entries ++ slack_entries slacks own l.slack)) refl (negate_exact l.side) refl e

pub halves_are : (s : System) (columns : List (List ℕ)) (slacks own : ℕ) (ls : List Line) (hs : List Half) → halves s columns slacks own ls ≡ Some hs → AreHalves s columns slacks own ls hs
halves_are s columns slacks own [] hs is = subst (λ (l : List Half). AreHalves s columns slacks own [] l) (same_Some [] hs is) tt
halves_are s columns slacks own (l ∷ ls) hs is =
    by (line_half s columns slacks own l) refl (halves s columns slacks (if l.slack then suc own else own) ls) refl (sym (halves_cons s columns slacks own l ls) ∙ is)
    (λ rest e. halves_are s columns slacks (if l.slack then suc own else own) ls rest e)
  where
    by : (o : Option Half) → line_half s columns slacks own l ≡ o → (m : Option (List Half)) → halves s columns slacks (if l.slack then suc own else own) ls ≡ m
        → option_and_then (λ h. option_map (λ rest. h ∷ rest) m) o ≡ Some hs
        → ((rest : List Half) → halves s columns slacks (if l.slack then suc own else own) ls ≡ Some rest → AreHalves s columns slacks (if l.slack then suc own else own) ls rest)
        → AreHalves s columns slacks own (l ∷ ls) hs
    by None p m q e go = absurd (cc)
    by (Some h) p None q e go = absurd (cc)
    by (Some h) p (Some rest) q e go =
        subst (λ (x : List Half). AreHalves s columns slacks own (l ∷ ls) x) (same_Some (h ∷ rest) hs e) (half_is s columns slacks own l h p, go rest q)

pub halves_count : (s : System) (columns : List (List ℕ)) (slacks own : ℕ) (ls : List Line) (hs : List Half) → AreHalves s columns slacks own ls hs → length hs ≡ length ls
halves_count s columns slacks own [] [] are = refl
halves_count s columns slacks own [] (h ∷ hs) are = absurd are
halves_count s columns slacks own (l ∷ ls) [] are = absurd are
halves_count s columns slacks own (l ∷ ls) (h ∷ hs) are = ap suc (halves_count s columns slacks (if l.slack then suc own else own) ls hs are.1)

-- each half is wide, and its side isn't below 0
pub half_at : (s : System) (columns : List (List ℕ)) (slacks own : ℕ) (ls : List Line) (hs : List Half) (k : ℕ) (d : Half) → AreHalves s columns slacks own ls hs → k < length hs
    → (length (get_or hs k d).real ≡ length columns + slacks) × (pos 0 ≤ℤ (get_or hs k d).side)
half_at s columns slacks own ls [] k d are within = absurd (omega arith)
half_at s columns slacks own [] (h ∷ hs) k d are within = absurd are
half_at s columns slacks own (l ∷ ls) (h ∷ hs) zero d are within = (are.0.wide, are.0.some)
half_at s columns slacks own (l ∷ ls) (h ∷ hs) (suc k) d are within = half_at s columns slacks (if l.slack then suc own else own) ls hs k d are.1 (omega arith)
