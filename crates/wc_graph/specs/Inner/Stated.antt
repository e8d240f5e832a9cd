-- The facts on control flow as sets of numbers: an address and a target are one number.
use Rattle.std.specs.Prelude.{ℕ, ◌≡◌, ◌+◌, ◌*◌, ◌/◌, ◌%◌, ◌^◌, ◌<◌, ◌==◌, Bool, List, [], ◌∷◌, map, filter, All}
use Rattle.std.specs.BTreeMap.{is_at}
use Rattle.std.specs.List.{flat_map, list_any}
use Rattle.std.specs.Ordering.{nat_cmp}
use Rattle.wc_model.specs.declared.flow_facts.Fact.{Fact}
use Rattle.wc_model.specs.declared.flow_facts.Fact.TheVariants.{Multibranch, Multicall, Noreturn}
use Rattle.wc_model.specs.Program.Steps.{with_target}
use Rattle.wc_graph.specs.declared.stated.Stated.{Stated}

abbrev pub key_of : ℕ → ℕ → ℕ
key_of at to = at * 4294967296 + to

abbrev pub is_of : ℕ → ℕ → Bool
is_of at key = key / 4294967296 == at

abbrev pub low : ℕ → ℕ
low key = key % 4294967296

-- the targets of an address
abbrev pub targets_in : List ℕ → ℕ → List ℕ
targets_in keys at = map low (filter (is_of at) keys)

abbrev pub with_all : List ℕ → List ℕ → List ℕ
with_all keys [] = keys
with_all keys (k ∷ ks) = with_all (with_target k keys) ks

abbrev pub has_number : ℕ → List ℕ → Bool
has_number n keys = list_any (is_at (nat_cmp n)) keys

-- what one fact states
abbrev pub jump_keys : Fact → List ℕ
jump_keys (Multibranch at to) = map (key_of at) to
jump_keys _ = []

abbrev pub call_keys : Fact → List ℕ
call_keys (Multicall at to) = map (key_of at) to
call_keys _ = []

abbrev pub noreturn_keys : Fact → List ℕ
noreturn_keys (Noreturn at) = at ∷ []
noreturn_keys _ = []

abbrev pub targets_of : Fact → List ℕ
targets_of (Multibranch at to) = to
targets_of (Multicall at to) = to
targets_of _ = []

abbrev pub Fits : List ℕ → Type 0
Fits ts = All (λ t. t < 2 ^ 32) ts

-- one fact was added
pub record Adds (fact : Fact) (old new : Stated) : Type 0 where
  pub jumps : new.jumps.keys ≡ with_all old.jumps.keys (jump_keys fact)
  pub calls : new.calls.keys ≡ with_all old.calls.keys (call_keys fact)
  pub noreturns : new.noreturns.keys ≡ with_all old.noreturns.keys (noreturn_keys fact)
  pub fits : Fits (targets_of fact)

-- exactly what the facts state
pub record AreStated (facts : List Fact) (stated : Stated) : Type 0 where
  pub jumps : stated.jumps.keys ≡ with_all [] (flat_map jump_keys facts)
  pub calls : stated.calls.keys ≡ with_all [] (flat_map call_keys facts)
  pub noreturns : stated.noreturns.keys ≡ with_all [] (flat_map noreturn_keys facts)
  pub fits : Fits (flat_map targets_of facts)
