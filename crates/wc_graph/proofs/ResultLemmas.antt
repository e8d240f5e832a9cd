-- What a call's answer says where it gives a value.
use Rattle.std.proofs.Common.{Result, Ok, Err, IfOk}

pub if_ok : {T E : Type 0} (r : Result T E) {P Q : T → Type 0} → IfOk r P → ((x : T) → P x → Q x) → IfOk r Q
if_ok (Ok x) holds then = then x holds
if_ok (Err e) holds then = holds

pub if_both : {T E : Type 0} (r : Result T E) {P Q R : T → Type 0} → IfOk r P → IfOk r Q → ((x : T) → P x → Q x → R x) → IfOk r R
if_both (Ok x) one two then = then x one two
if_both (Err e) one two then = one
