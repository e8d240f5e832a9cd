-- Potentials of nodes, of which some may still be missing.
use Rattle.std.specs.Prelude.{ℕ, ◌≡◌, ◌<◌, Bool, true, false, ℤ, pos, ◌+ℤ◌, ◌-ℤ◌, ◌≤ℤ◌, Option, None, Some}
use Rattle.std.specs.Int.{int_max}
use Rattle.wc_model.specs.declared.flow_system.System.{System}
use Rattle.wc_model.specs.declared.flow_system.SystemLoop.{SystemLoop}
use Rattle.wc_model.specs.declared.flow_system.SystemStep.{SystemStep}
use Rattle.wc_model.specs.declared.graphs.Nest.{Nest}
use Rattle.wc_model.specs.Flow.Systems.{is_marked}
use Rattle.wc_nestsolve.specs.declared.found.Found.{Found}
use Rattle.wc_nestsolve.specs.Inner.Nested.{IsLoop, IsStep}
use Rattle.wc_nestsolve.specs.Inner.Weights.{weight}

-- where `b` is there, `a` is too and is at least as great
abbrev pub Covers : Option ℤ → Option ℤ → Type 0
Covers a None = Unit {0}
Covers None (Some b) = ⊥
Covers (Some a) (Some b) = b ≤ℤ a

abbrev pub plus : ℤ → Option ℤ → Option ℤ
plus c None = None
plus c (Some z) = Some (c +ℤ z)

abbrev pub potential_ahead : (ℕ → Option ℤ) → Option ℕ → Option ℤ
potential_ahead u None = Some (pos 0)
potential_ahead u (Some q) = u q

-- a potential raised by a way to a head and on from there
abbrev pub raised_to : Option ℤ → ℤ → Option ℤ
raised_to None z = Some z
raised_to (Some a) z = Some (int_max a z)

abbrev pub raised_by : Option ℤ → Option Found → ℤ → Option ℤ
raised_by old None from = old
raised_by old (Some f) from = raised_to old (pos f.value +ℤ from)

-- the potentials meet the line on each step but the back steps of the loops from `count` on
module _ (s : System) (nest : Nest) (v : ℕ → ℤ) where
  abbrev pub IsMet : (ℕ → Option ℤ) → ℕ → SystemStep → Type 0
  IsMet u i t = Covers (u t.source) (plus (weight s v i t) (potential_ahead u t.target))

  pub record IsPotential (count : ℕ) (u : ℕ → Option ℤ) : Type 0 where
    pub ahead : (i : ℕ) (t : SystemStep) → IsStep s nest i t → is_marked nest i ≡ false → IsMet u i t
    pub back : (i m : ℕ) (t : SystemStep) (o : SystemLoop) → IsStep s nest i t → IsLoop s nest m o → m < count → is_marked nest i ≡ true → t.target ≡ Some o.head → IsMet u i t

-- what a potential is once the rounds of a loop are looked at: `at_head` is that of its head
abbrev pub after_loop : Option ℤ → ℤ → Bool → Option ℤ → Option Found → Option ℤ
after_loop None round within old f = old
after_loop (Some a) round false old f = old
after_loop (Some a) round true old f = raised_by old f (a -ℤ round)

-- what is found, as a potential
abbrev pub potential_of : Option Found → Option ℤ
potential_of None = None
potential_of (Some f) = Some (pos f.value)
