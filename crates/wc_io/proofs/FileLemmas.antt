-- The files of a house in memory, by path.
use Rattle.std.proofs.Common.{◌≡◌, ◌≢◌, ℕ, zero, suc, ◌+◌, ◌<◌, Bool, true, false, cond, List, [], ◌∷◌, ◌++◌, length, map, get_or, set, Option, Some, None, refl, sym, ap, ◌∙◌, subst, arith, option_map}
use Rattle.std.specs.List.{find, position_from}
use Rattle.std.proofs.lemmas.Slice.Eq.{bytes_eq-Decides}
use Rattle.wc_io.specs.Memory.{File, emptied, failing_at, file_at, filled, is_at, seen}
use Rattle.wc_io.specs.Telling.{IsFilled}
use Rattle.wc_io.specs.declared.memory_files.MemoryFile.{MemoryFile}

-- the first file of that path has this number
abbrev pub IsFirstAt : List ℕ → List MemoryFile → ℕ → Type 0
IsFirstAt path [] k = ⊥
IsFirstAt path (f ∷ fs) zero = is_at path (seen f) ≡ true
IsFirstAt path (f ∷ fs) (suc k) = (is_at path (seen f) ≡ false) × IsFirstAt path fs k

found_step : (b : Bool) (i : ℕ) (path : List ℕ) (f : MemoryFile) (fs : List MemoryFile) (k : ℕ) (later : Option ℕ) → is_at path (seen f) ≡ b
    → (later ≡ Some k → (m : ℕ) × (k ≡ (i + 1) + m) × IsFirstAt path fs m)
    → cond b (Some i) later ≡ Some k → (m : ℕ) × (k ≡ i + m) × IsFirstAt path (f ∷ fs) m
found_step true i path f fs k later at rest is = let here : i ≡ k = cc in (zero, omega arith, at)
found_step false i path f fs k later at rest is = let (m, far, first) = rest is in (suc m, omega arith, (at, first))

found_from : (i : ℕ) (path : List ℕ) (files : List MemoryFile) (k : ℕ) → position_from (λ f. is_at path (seen f)) i files ≡ Some k
    → (m : ℕ) × (k ≡ i + m) × IsFirstAt path files m
found_from i path [] k is = absurd (cc)
found_from i path (f ∷ fs) k is = found_step (is_at path (seen f)) i path f fs k _ refl (found_from (i + 1) path fs k) is

pub found : (path : List ℕ) (files : List MemoryFile) (k : ℕ) → position_from (λ f. is_at path (seen f)) 0 files ≡ Some k → IsFirstAt path files k
found path files k is = let (m, far, first) = found_from 0 path files k is in let e : m ≡ k = omega arith in subst (IsFirstAt path files) e first

pub first_within : (path : List ℕ) (files : List MemoryFile) (k : ℕ) → IsFirstAt path files k → k < length files
first_within path [] k first = absurd first
first_within path (f ∷ fs) zero first = omega arith
first_within path (f ∷ fs) (suc k) first = let lt = first_within path fs k first.1 in omega arith

pub first_file : (path : List ℕ) (files : List MemoryFile) (k : ℕ) (d : MemoryFile) → IsFirstAt path files k
    → find (is_at path) (map seen files) ≡ Some (seen (get_or files k d))
first_file path [] k d first = absurd first
first_file path (f ∷ fs) zero d first = rw first
first_file path (f ∷ fs) (suc k) d first = rw first.0 (first_file path fs k d first.1)

pub first_failing : (path : List ℕ) (files : List MemoryFile) (k : ℕ) (d : MemoryFile) → IsFirstAt path files k
    → failing_at (map seen files) path ≡ (seen (get_or files k d)).failing
first_failing path [] k d first = absurd first
first_failing path (f ∷ fs) zero d first = rw first
first_failing path (f ∷ fs) (suc k) d first = rw first.0 (first_failing path fs k d first.1)

pub set_emptied : (path : List ℕ) (files : List MemoryFile) (k : ℕ) (new d : MemoryFile) → IsFirstAt path files k
    → seen new ≡ record (seen (get_or files k d)) { bytes = [] } → map seen (set files k new) ≡ emptied path (map seen files)
set_emptied path [] k new d first is = absurd first
set_emptied path (f ∷ fs) zero new d first is = rw first (ap (λ x. x ∷ map seen fs) is)
set_emptied path (f ∷ fs) (suc k) new d first is = rw first.0 (ap (λ xs. seen f ∷ xs) (set_emptied path fs k new d first.1 is))

pub set_filled : (path bytes : List ℕ) (files : List MemoryFile) (k : ℕ) (new d : MemoryFile) → IsFirstAt path files k
    → seen new ≡ record (seen (get_or files k d)) { bytes = bytes } → map seen (set files k new) ≡ filled path bytes (map seen files)
set_filled path bytes [] k new d first is = absurd first
set_filled path bytes (f ∷ fs) zero new d first is = rw first (ap (λ x. x ∷ map seen fs) is)
set_filled path bytes (f ∷ fs) (suc k) new d first is = rw first.0 (ap (λ xs. seen f ∷ xs) (set_filled path bytes fs k new d first.1 is))

absent_step : (b : Bool) (i : ℕ) (later : Option ℕ) (f : File) (rest : Option File) → (later ≡ None → rest ≡ None)
    → cond b (Some i) later ≡ None → cond b (Some f) rest ≡ None
absent_step true i later f rest then is = absurd (cc)
absent_step false i later f rest then is = then is

pub absent : (i : ℕ) (path : List ℕ) (files : List MemoryFile) → position_from (λ f. is_at path (seen f)) i files ≡ None
    → find (is_at path) (map seen files) ≡ None
absent i path [] is = refl
absent i path (f ∷ fs) is = absent_step (is_at path (seen f)) i _ (seen f) _ (absent (i + 1) path fs) is

absent_here : (b : Bool) (f : File) (rest : Option File) → cond b (Some f) rest ≡ None → (b ≡ false) × (rest ≡ None)
absent_here true f rest is = absurd (cc)
absent_here false f rest is = (refl, is)

pub none_failing : (path : List ℕ) (files : List File) → find (is_at path) files ≡ None → failing_at files path ≡ []
none_failing path [] is = refl
none_failing path (f ∷ fs) is = let (other, rest) = absent_here (is_at path f) f _ is in rw other (none_failing path fs rest)

pub made : (path : List ℕ) (files : List MemoryFile) (new : MemoryFile) → find (is_at path) (map seen files) ≡ None
    → seen new ≡ record { path = path; bytes = []; most = 0; failing = [] } → map seen (files ++ new ∷ []) ≡ emptied path (map seen files)
made path [] new none is = ap (λ x. x ∷ []) is
made path (f ∷ fs) new none is =
    let (other, rest) = absent_here (is_at path (seen f)) (seen f) _ none in rw other (ap (λ xs. seen f ∷ xs) (made path fs new rest is))

pub none_filled : (path bytes : List ℕ) (files : List File) → find (is_at path) files ≡ None → files ≡ filled path bytes files
none_filled path bytes [] is = refl
none_filled path bytes (f ∷ fs) is =
    let (other, rest) = absent_here (is_at path f) f _ is in rw other (ap (λ xs. f ∷ xs) (none_filled path bytes fs rest))

-- ---- what is told of the files after a call

is_here : (path : List ℕ) (f : File) → f.path ≡ path → is_at path f ≡ true
is_here path f here = (bytes_eq-Decides f.path path).1 here

not_true : (b : Bool) → (b ≡ true → ⊥) → b ≡ false
not_true true wrong = absurd (wrong refl)
not_true false wrong = refl

elsewhere : (path p : List ℕ) (f : File) → is_at path f ≡ true → p ≢ path → is_at p f ≡ false
elsewhere path p f at other = not_true (is_at p f) (λ here. other (sym ((bytes_eq-Decides f.path p).0 here) ∙ (bytes_eq-Decides f.path path).0 at))

pub emptied_here : (path : List ℕ) (files : List File) → file_at (emptied path files) path ≡ Some []
emptied_here path [] = rw (is_here path (record { path = path; bytes = []; most = 0; failing = [] }) refl) refl
emptied_here path (f ∷ fs) = by (is_at path f) refl (emptied_here path fs)
  where
    by : (b : Bool) → is_at path f ≡ b → file_at (emptied path fs) path ≡ Some []
        → file_at (cond b (record f { bytes = [] } ∷ fs) (f ∷ emptied path fs)) path ≡ Some []
    by true at later = rw at refl
    by false at later = rw at later

changed_others : (path p bytes : List ℕ) (f : File) (fs rest : List File) (b : Bool) → is_at path f ≡ b → p ≢ path → file_at rest p ≡ file_at fs p
    → file_at (cond b (record f { bytes = bytes } ∷ fs) (f ∷ rest)) p ≡ file_at (f ∷ fs) p
changed_others path p bytes f fs rest true at other later = let was = elsewhere path p f at other in rw was refl
changed_others path p bytes f fs rest false at other later = by (is_at p f)
  where
    by : (b : Bool) → option_map (λ (x : File). x.bytes) (cond b (Some f) (find (is_at p) rest)) ≡ option_map (λ (x : File). x.bytes) (cond b (Some f) (find (is_at p) fs))
    by true = refl
    by false = later

pub emptied_others : (path p : List ℕ) (files : List File) → p ≢ path → file_at (emptied path files) p ≡ file_at files p
emptied_others path p [] other =
    let new : File = record { path = path; bytes = []; most = 0; failing = [] } in
    let not_here = elsewhere path p new (is_here path new refl) other in rw not_here refl
emptied_others path p (f ∷ fs) other = changed_others path p [] f fs (emptied path fs) (is_at path f) refl other (emptied_others path p fs other)

pub filled_others : (path p bytes : List ℕ) (files : List File) → p ≢ path → file_at (filled path bytes files) p ≡ file_at files p
filled_others path p bytes [] other = refl
filled_others path p bytes (f ∷ fs) other = changed_others path p bytes f fs (filled path bytes fs) (is_at path f) refl other (filled_others path p bytes fs other)

pub filled_here : (path bytes : List ℕ) (files : List File) → IsFilled (file_at files path) (Some bytes) (file_at (filled path bytes files) path)
filled_here path bytes [] = tt
filled_here path bytes (f ∷ fs) = by (is_at path f) refl (filled_here path bytes fs)
  where
    by : (b : Bool) → is_at path f ≡ b → IsFilled (file_at fs path) (Some bytes) (file_at (filled path bytes fs) path)
        → IsFilled (option_map (λ (x : File). x.bytes) (cond b (Some f) (find (is_at path) fs))) (Some bytes)
        (file_at (cond b (record f { bytes = bytes } ∷ fs) (f ∷ filled path bytes fs)) path)
    by true at later = rw at refl
    by false at later = rw at later
