-- The keys of an object, as its entries have them.
use Rattle.std.proofs.Common.{◌≡◌, ℕ, Bool, List, [], ◌∷◌, ◌&&◌, refl, ap, String, string_bytes}
use Rattle.std.specs.List.{list_all}
use Rattle.std.specs.declared.alloc.Global.{Global}
use Rattle.serde_json.specs.View.{members_view}
use Rattle.serde_json.specs.declared.value.Value.{Value}
use Rattle.wc_hw.specs.HardwareFile.{keys_pass}

pub keys_all : (is_key : List ℕ → Bool) (entries : List (String Global × Value)) → list_all (λ (e : String Global × Value). is_key (string_bytes e.0)) entries ≡ keys_pass is_key (members_view entries)
keys_all is_key [] = refl
keys_all is_key (e ∷ entries) = ap (λ rest. is_key (string_bytes e.0) && rest) (keys_all is_key entries)
