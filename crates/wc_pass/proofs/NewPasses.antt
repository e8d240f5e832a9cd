-- The passes that a desk begins with.
use Rattle.std.proofs.Common.{◌≡◌, ℕ, zero, suc, [], refl}
use Rattle.std.specs.Prelude.{All}
use Rattle.std.proofs.lemmas.List.Elements.{All-push, All-nil}
use Rattle.atomic_table.specs.Seated.{TableId}
use Rattle.wc_pass.specs.Known.{KnownPass, new_passes}

-- all are of that desk
pub new_passes-desk : (desk : TableId) (n : ℕ) → All (λ (p : KnownPass). p.desk ≡ desk) (new_passes desk n)
new_passes-desk desk zero = All-nil (λ (p : KnownPass). p.desk ≡ desk)
new_passes-desk desk (suc n) = All-push (λ (p : KnownPass). p.desk ≡ desk) (new_passes desk n) (record { desk = desk; seen = []; session = suc n }) (new_passes-desk desk n) refl
