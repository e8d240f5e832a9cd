-- Steps of the loop that puts a line to the front of a set: `lines` is the array, its first `count` are the set, and
-- `coming` is to stand at place `i`.
use Rattle.std.proofs.Common.{◌≡◌, ℕ, zero, suc, ◌+◌, ◌<◌, ◌≤◌, Bool, true, false, ◌==◌, ◌||◌, if◌then◌else◌, List, [], ◌∷◌, ◌++◌, length, get_or, set, take, drop, refl, ap, ap₂, sym, ◌∙◌, arith, append_assoc, add-one, drop-cons}
use Rattle.std.proofs.lemmas.Bool.{eq-eqb, ne_eqb, true≢false, false≢true}
use Rattle.std.proofs.lemmas.List.{drop-set-lt, drop_all, get_or-take, length-take, length-take-le, set_split, take-take, take_all, take_at, take_more_set}
use Rattle.wc_model.specs.Cache.Lru.{has_line, line_fetched, without}
use Rattle.wc_lru.specs.Inner.Sets.{IsMoving}

taken_set : (n i y : ℕ) (xs : List ℕ) → take n (set xs i y) ≡ set (take n xs) i y
taken_set zero i y xs = refl
taken_set (suc n) i y [] = refl
taken_set (suc n) zero y (x ∷ xs) = refl
taken_set (suc n) (suc i) y (x ∷ xs) = ap (λ ys. x ∷ ys) (taken_set n i y xs)

-- what stands behind a place that is written stays
behind : (count i y : ℕ) (lines : List ℕ) → drop (suc i) (take count (set lines i y)) ≡ drop (suc i) (take count lines)
behind count i y lines = ap (λ ls. drop (suc i) ls) (taken_set count i y lines) ∙ drop-set-lt (suc i) (take count lines) i y (omega arith)

-- the line at the place, and those to come
rest_is : (count i : ℕ) (lines : List ℕ) → i < count → count ≤ length lines → drop i (take count lines) ≡ get_or lines i 0 ∷ drop (suc i) (take count lines)
rest_is count i lines within few = drop-cons (take count lines) i 0 (omega (arith, length-take-le count lines few)) ∙ ap (λ l. l ∷ drop (suc i) (take count lines)) (get_or-take count lines i 0 within)

others_kept : (b : Bool) (l : ℕ) (rest more : List ℕ) → b ≡ false → (if b then rest else l ∷ more) ≡ l ∷ more
others_kept true l rest more is = absurd (true≢false is)
others_kept false l rest more is = refl

line_left : (b : Bool) (l : ℕ) (rest more : List ℕ) → b ≡ true → (if b then rest else l ∷ more) ≡ rest
line_left true l rest more is = refl
line_left false l rest more is = absurd (false≢true is)

-- another line moves to the next place
pub passed : (line : ℕ) (all lines : List ℕ) (count i coming : ℕ) → i < count → count ≤ length lines → (get_or lines i 0 ≡ line → ⊥) → IsMoving line all lines count i coming → IsMoving line all (set lines i coming) count (i + 1) (get_or lines i 0)
passed line all lines count i coming within few other is =
    let test : (get_or lines i 0 == line) ≡ false = ne_eqb (get_or lines i 0) line other in
    let front : take (i + 1) (set lines i coming) ≡ take i lines ++ coming ∷ [] = take_more_set lines i coming (omega arith) in
    let back : drop (i + 1) (take count (set lines i coming)) ≡ drop (suc i) (take count lines) = rw add-one (behind count i coming lines) in
    let old : without line (drop i (take count lines)) ≡ get_or lines i 0 ∷ without line (drop (suc i) (take count lines)) =
    ap (λ ls. without line ls) (rest_is count i lines within few) ∙ others_kept (get_or lines i 0 == line) (get_or lines i 0) (drop (suc i) (take count lines)) (without line (drop (suc i) (take count lines))) test in
    record {
      so_far = ap₂ (λ first later. first ++ (get_or lines i 0 ∷ without line later)) front back
          ∙ append_assoc (take i lines) (coming ∷ []) (get_or lines i 0 ∷ without line (drop (suc i) (take count lines)))
          ∙ ap (λ later. take i lines ++ (coming ∷ later)) (sym old) ∙ is.so_far;
      hit = ap (λ ls. has_line ls line) back
          ∙ sym (ap (λ ls. has_line ls line) (rest_is count i lines within few) ∙ ap (λ b. b || has_line (drop (suc i) (take count lines)) line) test) ∙ is.hit;
    }

-- the line itself is met
pub met : (ways line : ℕ) (all lines : List ℕ) (count i coming : ℕ) → i < count → count ≤ length lines → count ≤ ways → get_or lines i 0 ≡ line → IsMoving line all lines count i coming → take count (set lines i coming) ≡ line_fetched ways line all
met ways line all lines count i coming within few room same is =
    let old : without line (drop i (take count lines)) ≡ drop (suc i) (take count lines) =
    ap (λ ls. without line ls) (rest_is count i lines within few) ∙ line_left (get_or lines i 0 == line) (get_or lines i 0) (drop (suc i) (take count lines)) (without line (drop (suc i) (take count lines))) (eq-eqb (get_or lines i 0) line same) in
    let now : take count (set lines i coming) ≡ line ∷ without line all =
    taken_set count i coming lines ∙ set_split (take count lines) i coming (omega (arith, length-take-le count lines few))
    ∙ ap (λ first. first ++ coming ∷ drop (suc i) (take count lines)) (take-take i count lines (omega arith)) ∙ ap (λ later. take i lines ++ (coming ∷ later)) (sym old) ∙ is.so_far in
    let size : length (take count (set lines i coming)) ≤ ways = omega (arith, length-take count (set lines i coming)) in
    sym (take_all ways (take count (set lines i coming)) size) ∙ ap (λ ls. take ways ls) now

pub met_hit : (line : ℕ) (all lines : List ℕ) (count i coming : ℕ) → i < count → count ≤ length lines → get_or lines i 0 ≡ line → IsMoving line all lines count i coming → has_line all line ≡ true
met_hit line all lines count i coming within few same is =
    sym is.hit ∙ ap (λ ls. has_line ls line) (rest_is count i lines within few) ∙ ap (λ b. b || has_line (drop (suc i) (take count lines)) line) (eq-eqb (get_or lines i 0) line same)

-- behind the last place
none_left : (line : ℕ) (all lines : List ℕ) (count coming : ℕ) → count ≤ length lines → IsMoving line all lines count count coming → take count lines ++ coming ∷ [] ≡ line ∷ without line all
none_left line all lines count coming few is = ap (λ rest. take count lines ++ (coming ∷ without line rest)) (sym (drop_all count (take count lines) (omega (arith, length-take-le count lines few)))) ∙ is.so_far

pub missed : (line : ℕ) (all lines : List ℕ) (count coming : ℕ) → count ≤ length lines → IsMoving line all lines count count coming → has_line all line ≡ false
missed line all lines count coming few is = sym is.hit ∙ ap (λ rest. has_line rest line) (drop_all count (take count lines) (omega (arith, length-take-le count lines few)))

-- there is room, or the oldest line leaves
pub put_behind : (ways line : ℕ) (all lines : List ℕ) (count coming : ℕ) → count < ways → count < length lines → IsMoving line all lines count count coming → take (count + 1) (set lines count coming) ≡ line_fetched ways line all
put_behind ways line all lines count coming room few is =
    let now : take (count + 1) (set lines count coming) ≡ line ∷ without line all = take_more_set lines count coming few ∙ none_left line all lines count coming (omega arith) is in
    let size : length (take (count + 1) (set lines count coming)) ≤ ways = omega (arith, length-take (count + 1) (set lines count coming)) in
    sym (take_all ways (take (count + 1) (set lines count coming)) size) ∙ ap (λ ls. take ways ls) now

pub pushed_out : (ways line : ℕ) (all lines : List ℕ) (count coming : ℕ) → count ≡ ways → count ≤ length lines → IsMoving line all lines count count coming → take count lines ≡ line_fetched ways line all
pushed_out ways line all lines count coming full few is =
    sym (take_at (take count lines) (coming ∷ []) ways (omega (arith, full, length-take-le count lines few))) ∙ ap (λ ls. take ways ls) (none_left line all lines count coming few is)
