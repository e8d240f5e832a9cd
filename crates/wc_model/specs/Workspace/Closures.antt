-- What the kinds of a list of descriptions depend on, and their order. After OTAWA 2010.
use Rattle.std.specs.Prelude.{ℕ, ◌≡◌, zero, suc, if◌then◌else◌, ◌+◌, Bool, not, ◌&&◌, ◌==◌, nat_lt, List, [], ◌∷◌, ◌++◌, take, length, find, Option, None, Some}
use Rattle.std.specs.List.{flat_map, list_all, list_any}
use Rattle.std.specs.Option.{option_map_or}
use Rattle.wc_model.specs.declared.elf_image.Image.{Image}
use Rattle.wc_model.specs.declared.inputs.Edit.{Edit}
use Rattle.wc_model.specs.declared.kinds.Describe.{Describe}
use Rattle.wc_model.specs.declared.kinds.Part.{Part}
use Rattle.wc_model.specs.Workspace.Edits.{Setting, bare, edited, touches}

abbrev pub has_kind : ℕ → List ℕ → Bool
has_kind kind kinds = list_any (λ k. k == kind) kinds

-- Two lists have the same kinds, in whatever order and however often.
abbrev pub SameKinds : List ℕ → List ℕ → Type 0
SameKinds a b = (kind : ℕ) → has_kind kind a ≡ has_kind kind b

-- What a kind requires by its own description, and what it reads by it.
abbrev pub describe_of : List Describe → ℕ → Option Describe
describe_of kinds kind = find (λ d. d.provides == kind) kinds

abbrev pub requires_of : List Describe → ℕ → List ℕ
requires_of kinds kind = option_map_or (λ d. d.requires_) (describe_of kinds kind) []

abbrev pub reads_of : List Describe → ℕ → List Part
reads_of kinds kind = option_map_or (λ d. d.reads) (describe_of kinds kind) []

-- The parts that a kind reads, or that those kinds read to which at most `links` requirements lead from it.
abbrev pub reads_within : List Describe → ℕ → ℕ → List Part
reads_within kinds zero kind = reads_of kinds kind
reads_within kinds (suc links) kind =
    reads_of kinds kind ++ flat_map (reads_within kinds links) (requires_of kinds kind)

-- The closure of a kind: the parts that it reads, or that any kind reads that it requires, directly or through
-- others. Among so many kinds no chain of requirements without a repeat is longer than their number.
abbrev pub closure : List Describe → ℕ → List Part
closure kinds kind = reads_within kinds (length kinds) kind

abbrev pub touches_any : List Part → Setting → Edit → Bool
touches_any parts s edit = list_any (λ part. touches part s edit) parts

-- The last edit of a list that touched one of the parts, or else `stamp`. `count` edits came before the list.
abbrev pub last_touch : List Part → ℕ → ℕ → Setting → List Edit → ℕ
last_touch parts stamp count s [] = stamp
last_touch parts stamp count s (e ∷ es) =
    last_touch parts (if touches_any parts s e then count + 1 else stamp) (count + 1) (edited (count + 1) s e) es

-- The stamp of a kind at `n`: the last of the first `n` edits that touched a part of its closure, or 0.
abbrev pub stamp_of : List Describe → Image → ℕ → ℕ → List Edit → ℕ
stamp_of kinds image kind n edits = last_touch (closure kinds kind) 0 0 (bare image) (take n edits)

abbrev pub has_all : List ℕ → List ℕ → Bool
has_all kinds among = list_all (λ k. has_kind k among) kinds

abbrev pub lesser : ℕ → Option ℕ → Option ℕ
lesser k None = Some k
lesser k (Some least) = if nat_lt k least then Some k else Some least

-- The least kind that isn't placed yet although all that it requires is.
abbrev pub next_available : List Describe → List ℕ → Option ℕ
next_available [] placed = None
next_available (d ∷ ds) placed =
    if not (has_kind d.provides placed) && has_all d.requires_ placed
    then lesser d.provides (next_available ds placed)
    else next_available ds placed

abbrev pub placed_next : List ℕ → Option ℕ → List ℕ
placed_next placed None = placed
placed_next placed (Some k) = placed ++ k ∷ []

abbrev pub placed_after : List Describe → ℕ → List ℕ
placed_after kinds zero = []
placed_after kinds (suc n) = let placed = placed_after kinds n in placed_next placed (next_available kinds placed)

-- The order of the kinds: each one after what it requires, the least available first.
abbrev pub order_of : List Describe → List ℕ
order_of kinds = placed_after kinds (length kinds)
