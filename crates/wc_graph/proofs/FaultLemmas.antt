-- One fault more.
use Rattle.std.proofs.Common.{◌≡◌, ◌<◌, ◌≤◌, ◌⊎◌, inl, inr, ⊎_elim, List, [], ◌∷◌, ◌++◌, Option, None, Some, refl, sym, ap, subst, ◌∙◌, arith}
use Rattle.std.proofs.lemmas.Bool.{cases_eq, cases_lt}
use Rattle.wc_base.specs.Faults.{number_of}
use Rattle.wc_graph.specs.declared.faults.Faulty.{Faulty}
use Rattle.wc_graph.specs.Inner.Faults.{IsAmong, IsUpTo, IsLeast}

pub among_push : (gs : List Faulty) (g f : Faulty) → IsAmong (gs ++ g ∷ []) f → IsAmong gs f ⊎ (g ≡ f)
among_push [] g f (inl same) = inr same
among_push [] g f (inr none) = absurd none
among_push (x ∷ gs) g f (inl same) = inl (inl same)
among_push (x ∷ gs) g f (inr later) = ⊎_elim (λ (old : IsAmong gs f). inl (inr old)) (λ (same : g ≡ f). inr same) (among_push gs g f later)

pub among_left : (gs : List Faulty) (g f : Faulty) → IsAmong gs f → IsAmong (gs ++ g ∷ []) f
among_left [] g f none = absurd none
among_left (x ∷ gs) g f (inl same) = inl same
among_left (x ∷ gs) g f (inr later) = inr (among_left gs g f later)

pub among_last : (gs : List Faulty) (g : Faulty) → IsAmong (gs ++ g ∷ []) g
among_last [] g = inl refl
among_last (x ∷ gs) g = inr (among_last gs g)

pub first_fault : (gs : List Faulty) (g : Faulty) (least : Option Faulty) → least ≡ None → IsLeast gs least → IsLeast (gs ++ g ∷ []) (Some g)
first_fault gs g None none is = (
  among_last gs g,
  λ f among. ⊎_elim
      (λ (old : IsAmong gs f). absurd (subst (λ (xs : List Faulty). IsAmong xs f) is old))
      (λ (same : g ≡ f). inr (ap (λ (x : Faulty). x.at) same, subst (λ (x : Faulty). number_of g.fault ≤ number_of x.fault) same (omega arith)))
      (among_push gs g f among),
)
first_fault gs g (Some f) none is = absurd (some_none f none)
  where
    some_none : (f : Faulty) → Some f ≡ None → ⊥
    some_none f same = cc

up_other : (f g : Faulty) → (IsUpTo g f → ⊥) → IsUpTo f g
up_other f g not_up = ⊎_elim
    (λ (less : f.at < g.at). inl less)
    (λ (more : g.at ≤ f.at). ⊎_elim
    (λ (same : f.at ≡ g.at). inr (same, ⊎_elim (λ (low : number_of f.fault < number_of g.fault). omega arith) (λ (high : number_of g.fault ≤ number_of f.fault). absurd (not_up (inr (sym same, high)))) (cases_lt (number_of f.fault) (number_of g.fault))))
    (λ (apart : f.at ≡ g.at → ⊥). absurd (not_up (inl (omega (arith, apart)))))
    (cases_eq f.at g.at))
    (cases_lt f.at g.at)

pub still_least : (gs : List Faulty) (g other : Faulty) (least : Option Faulty) → least ≡ Some other → (IsUpTo g other → ⊥) → IsLeast gs least → IsLeast (gs ++ g ∷ []) least
still_least gs g other None some not_up is = absurd (none_some other some)
  where
    none_some : (f : Faulty) → None ≡ Some f → ⊥
    none_some f same = cc
still_least gs g other (Some f) some not_up is = (
  among_left gs g f is.0,
  λ h among. ⊎_elim
      (λ (old : IsAmong gs h). is.1 h old)
      (λ (same : g ≡ h). subst (λ (x : Faulty). IsUpTo f x) same (subst (λ (x : Faulty). IsUpTo x g) (sym (one f other some)) (up_other other g not_up)))
      (among_push gs g h among),
)
  where
    one : (f other : Faulty) → Some f ≡ Some other → f ≡ other
    one f other same = cc

up_trans : (f g h : Faulty) → IsUpTo f g → IsUpTo g h → IsUpTo f h
up_trans f g h (inl less) (inl more) = inl (omega arith)
up_trans f g h (inl less) (inr more) = inl (omega (arith, more.0))
up_trans f g h (inr less) (inl more) = inl (omega (arith, less.0))
up_trans f g h (inr less) (inr more) = inr (less.0 ∙ more.0, omega (arith, less.1, more.1))

pub new_least : (gs : List Faulty) (g other : Faulty) (least : Option Faulty) → least ≡ Some other → IsUpTo g other → IsLeast gs least → IsLeast (gs ++ g ∷ []) (Some g)
new_least gs g other None some up is = absurd (none_some other some)
  where
    none_some : (f : Faulty) → None ≡ Some f → ⊥
    none_some f same = cc
new_least gs g other (Some f) some up is = (
  among_last gs g,
  λ h among. ⊎_elim
      (λ (old : IsAmong gs h). up_trans g f h (subst (λ (x : Faulty). IsUpTo g x) (sym (one f other some)) up) (is.1 h old))
      (λ (same : g ≡ h). inr (ap (λ (x : Faulty). x.at) same, subst (λ (x : Faulty). number_of g.fault ≤ number_of x.fault) same (omega arith)))
      (among_push gs g h among),
)
  where
    one : (f other : Faulty) → Some f ≡ Some other → f ≡ other
    one f other same = cc
