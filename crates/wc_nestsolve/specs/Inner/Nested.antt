-- What a nest gives for the system of its graph, by numbers alone.
use Rattle.std.specs.Prelude.{ℕ, ◌≡◌, ◌≤◌, Bool, true, false, not, ◌&&◌, slice_get, Some}
use Rattle.wc_model.specs.declared.flow_system.System.{System}
use Rattle.wc_model.specs.declared.flow_system.SystemLoop.{SystemLoop}
use Rattle.wc_model.specs.declared.flow_system.SystemStep.{SystemStep}
use Rattle.wc_model.specs.declared.graphs.Nest.{Nest}
use Rattle.wc_model.specs.Flow.Ceiling.{loops_round}
use Rattle.wc_model.specs.Flow.Places.{is_listed}
use Rattle.wc_model.specs.Flow.Systems.{is_marked, leads_to}

-- the class of a loop has a node
abbrev pub lies : Nest → ℕ → ℕ → Bool
lies nest k p = is_listed k (loops_round nest p)

module _ (s : System) (nest : Nest) where
  abbrev pub IsStep : ℕ → SystemStep → Type 0
  IsStep i t = slice_get s.steps i ≡ Some t

  abbrev pub IsLoop : ℕ → SystemLoop → Type 0
  IsLoop k l = slice_get s.loops k ≡ Some l

  pub record IsNested : Type 0 where
    pub back : (i k : ℕ) (t : SystemStep) (l : SystemLoop) → IsStep i t → IsLoop k l → is_listed i l.back ≡ (leads_to t.target l.head && is_marked nest i)
    pub entry : (i k : ℕ) (t : SystemStep) (l : SystemLoop) → IsStep i t → IsLoop k l → is_listed i l.entry ≡ (leads_to t.target l.head && not (is_marked nest i))
    -- a marked step is a back step of one loop, and leads from its class to its head; any other step to a head comes
    -- from outside of its class
    pub owned : (i : ℕ) (t : SystemStep) → IsStep i t → is_marked nest i ≡ true → (k : ℕ) × (l : SystemLoop) × IsLoop k l × (t.target ≡ Some l.head)
    pub marked : (i k : ℕ) (t : SystemStep) (l : SystemLoop) → IsStep i t → IsLoop k l → t.target ≡ Some l.head → is_marked nest i ≡ true → lies nest k t.source ≡ true
    pub unmarked : (i k : ℕ) (t : SystemStep) (l : SystemLoop) → IsStep i t → IsLoop k l → t.target ≡ Some l.head → is_marked nest i ≡ false → lies nest k t.source ≡ false
    pub heads : (k m : ℕ) (l o : SystemLoop) → IsLoop k l → IsLoop m o → l.head ≡ o.head → k ≡ m
    pub inside : (k : ℕ) (l : SystemLoop) → IsLoop k l → lies nest k l.head ≡ true
    -- a step into a class from outside of it leads to its head
    pub entered : (i k q : ℕ) (t : SystemStep) (l : SystemLoop) → IsStep i t → IsLoop k l → t.target ≡ Some q → lies nest k q ≡ true → lies nest k t.source ≡ false → q ≡ l.head
    pub started : (k : ℕ) (l : SystemLoop) → IsLoop k l → lies nest k s.start ≡ true → s.start ≡ l.head
    -- loops stand before those inside of them, and classes are nested
    pub outer : (k m : ℕ) (l o : SystemLoop) → IsLoop k l → IsLoop m o → lies nest k o.head ≡ true → k ≤ m
    pub larger : (k m p : ℕ) (l o : SystemLoop) → IsLoop k l → IsLoop m o → lies nest k o.head ≡ true → lies nest m p ≡ true → lies nest k p ≡ true
