-- What a canonical word is read as.
use Rattle.std.proofs.Common.{◌≡◌, ◌⊎◌, inl, inr, ℕ, zero, suc, ◌+◌, ◌*◌, ◌-◌, ◌^◌, ◌/◌, ◌%◌, ◌<◌, ◌≤◌, ◌==◌, ◌&&◌, nat_le, Bool, true, false, Option, Some, None, refl, sym, ap, subst, ◌∙◌, arith, if◌then◌else◌, IfSome}
use Rattle.wc_model.specs.declared.instructions.Class.{Class}
use Rattle.wc_model.specs.declared.instructions.Class.TheVariants.{Alu, Mul, Div, Load, Store, Multi, Branch, System}
use Rattle.wc_model.specs.declared.instructions.Control.{Control}
use Rattle.wc_model.specs.declared.instructions.Control.TheVariants.{Next, Jump, Call, Return, IndirectJump, IndirectCall}
use Rattle.wc_model.specs.declared.instructions.Insn.{Insn}
use Rattle.wc_model.specs.Program.Instruction.{field, bit, insn_of, next, is_unconditional, branch_target}
use Rattle.wc_asm.specs.Canonical.{distance, is_reachable, branch_word, only_if, next_word, return_word, indirect_jump_word, turning_word, conditional, of_control}
use Rattle.wc_asm.specs.Readings.{turned, ReadsBack}
use Rattle.wc_a32.proofs.Rows.{only_branch}

only : (condition : Bool) (word : ℕ) (is : ℕ → Type 0) → (condition ≡ true → is word) → IfSome (only_if condition (Some word)) is
only true word is holds = holds refl
only false word is holds = tt

at_zero : (moved : ℕ) → (moved == 0) ≡ true → moved ≡ 0
at_zero moved is = grind arith

pub next_multi : (at k : ℕ) → 1 ≤ k → k ≤ 15 → insn_of at (0xE8900000 + (2 ^ k - 1)) ≡ next Multi k
unfolding lib.Count.ones
next_multi at zero some few = absurd (omega arith)
next_multi at (suc zero) some few = refl
next_multi at (suc (suc zero)) some few = refl
next_multi at (suc (suc (suc zero))) some few = refl
next_multi at (suc (suc (suc (suc zero)))) some few = refl
next_multi at (suc (suc (suc (suc (suc zero))))) some few = refl
next_multi at (suc (suc (suc (suc (suc (suc zero)))))) some few = refl
next_multi at (suc (suc (suc (suc (suc (suc (suc zero))))))) some few = refl
next_multi at (suc (suc (suc (suc (suc (suc (suc (suc zero)))))))) some few = refl
next_multi at (suc (suc (suc (suc (suc (suc (suc (suc (suc zero))))))))) some few = refl
next_multi at (suc (suc (suc (suc (suc (suc (suc (suc (suc (suc zero)))))))))) some few = refl
next_multi at (suc (suc (suc (suc (suc (suc (suc (suc (suc (suc (suc zero))))))))))) some few = refl
next_multi at (suc (suc (suc (suc (suc (suc (suc (suc (suc (suc (suc (suc zero)))))))))))) some few = refl
next_multi at (suc (suc (suc (suc (suc (suc (suc (suc (suc (suc (suc (suc (suc zero))))))))))))) some few = refl
next_multi at (suc (suc (suc (suc (suc (suc (suc (suc (suc (suc (suc (suc (suc (suc zero)))))))))))))) some few = refl
next_multi at (suc (suc (suc (suc (suc (suc (suc (suc (suc (suc (suc (suc (suc (suc (suc zero))))))))))))))) some few = refl
next_multi at (suc (suc (suc (suc (suc (suc (suc (suc (suc (suc (suc (suc (suc (suc (suc (suc k)))))))))))))))) some few = absurd (omega arith)

pub return_multi : (at k : ℕ) → 1 ≤ k → k ≤ 13 → insn_of at (0xE8BD8000 + (2 ^ (k - 1) - 1)) ≡ turned Multi k Return true
unfolding lib.Count.ones
return_multi at zero some few = absurd (omega arith)
return_multi at (suc zero) some few = refl
return_multi at (suc (suc zero)) some few = refl
return_multi at (suc (suc (suc zero))) some few = refl
return_multi at (suc (suc (suc (suc zero)))) some few = refl
return_multi at (suc (suc (suc (suc (suc zero))))) some few = refl
return_multi at (suc (suc (suc (suc (suc (suc zero)))))) some few = refl
return_multi at (suc (suc (suc (suc (suc (suc (suc zero))))))) some few = refl
return_multi at (suc (suc (suc (suc (suc (suc (suc (suc zero)))))))) some few = refl
return_multi at (suc (suc (suc (suc (suc (suc (suc (suc (suc zero))))))))) some few = refl
return_multi at (suc (suc (suc (suc (suc (suc (suc (suc (suc (suc zero)))))))))) some few = refl
return_multi at (suc (suc (suc (suc (suc (suc (suc (suc (suc (suc (suc zero))))))))))) some few = refl
return_multi at (suc (suc (suc (suc (suc (suc (suc (suc (suc (suc (suc (suc zero)))))))))))) some few = refl
return_multi at (suc (suc (suc (suc (suc (suc (suc (suc (suc (suc (suc (suc (suc zero))))))))))))) some few = refl
return_multi at (suc (suc (suc (suc (suc (suc (suc (suc (suc (suc (suc (suc (suc (suc k)))))))))))))) some few = absurd (omega arith)

pub return_multi_if : (at k : ℕ) → 1 ≤ k → k ≤ 13 → insn_of at (0xE8BD8000 + (2 ^ (k - 1) - 1) - 0xD0000000) ≡ turned Multi k Return false
unfolding lib.Count.ones
return_multi_if at zero some few = absurd (omega arith)
return_multi_if at (suc zero) some few = refl
return_multi_if at (suc (suc zero)) some few = refl
return_multi_if at (suc (suc (suc zero))) some few = refl
return_multi_if at (suc (suc (suc (suc zero)))) some few = refl
return_multi_if at (suc (suc (suc (suc (suc zero))))) some few = refl
return_multi_if at (suc (suc (suc (suc (suc (suc zero)))))) some few = refl
return_multi_if at (suc (suc (suc (suc (suc (suc (suc zero))))))) some few = refl
return_multi_if at (suc (suc (suc (suc (suc (suc (suc (suc zero)))))))) some few = refl
return_multi_if at (suc (suc (suc (suc (suc (suc (suc (suc (suc zero))))))))) some few = refl
return_multi_if at (suc (suc (suc (suc (suc (suc (suc (suc (suc (suc zero)))))))))) some few = refl
return_multi_if at (suc (suc (suc (suc (suc (suc (suc (suc (suc (suc (suc zero))))))))))) some few = refl
return_multi_if at (suc (suc (suc (suc (suc (suc (suc (suc (suc (suc (suc (suc zero)))))))))))) some few = refl
return_multi_if at (suc (suc (suc (suc (suc (suc (suc (suc (suc (suc (suc (suc (suc zero))))))))))))) some few = refl
return_multi_if at (suc (suc (suc (suc (suc (suc (suc (suc (suc (suc (suc (suc (suc (suc k)))))))))))))) some few = absurd (omega arith)

pub next_back : (at : ℕ) (class : Class) (moved : ℕ) → IfSome (next_word class moved) (λ word. insn_of at word ≡ next class moved)
next_back at Alu moved = only (moved == 0) 0xE1A00000 _ (λ is. let none : moved ≡ 0 = at_zero moved is in rw none refl)
next_back at Mul moved = only (moved == 0) 0xE0000190 _ (λ is. let none : moved ≡ 0 = at_zero moved is in rw none refl)
next_back at Div moved = only (moved == 0) 0xE710F110 _ (λ is. let none : moved ≡ 0 = at_zero moved is in rw none refl)
next_back at Load moved = only (moved == 0) 0xE5900000 _ (λ is. let none : moved ≡ 0 = at_zero moved is in rw none refl)
next_back at Store moved = only (moved == 0) 0xE5800000 _ (λ is. let none : moved ≡ 0 = at_zero moved is in rw none refl)
next_back at Multi moved = only (nat_le 1 moved && nat_le moved 15) (0xE8900000 + (2 ^ moved - 1)) _ (λ is. next_multi at moved (grind arith) (grind arith))
next_back at Branch moved = tt
next_back at System moved = only (moved == 0) 0xEF000000 _ (λ is. let none : moved ≡ 0 = at_zero moved is in rw none refl)

pub return_back : (at : ℕ) (class : Class) (moved : ℕ) → IfSome (return_word class moved) (ReadsBack at class moved Return)
return_back at Alu moved = only (moved == 0) 0xE1A0F00E _ (λ is. let none : moved ≡ 0 = at_zero moved is in rw none (refl, refl))
return_back at Mul moved = tt
return_back at Div moved = tt
return_back at Load moved = only (moved == 0) 0xE49DF004 _ (λ is. let none : moved ≡ 0 = at_zero moved is in rw none (refl, refl))
return_back at Store moved = tt
return_back at Multi moved = only (nat_le 1 moved && nat_le moved 13) (0xE8BD8000 + (2 ^ (moved - 1) - 1)) _ (λ is. (return_multi at moved (grind arith) (grind arith), return_multi_if at moved (grind arith) (grind arith)))
return_back at Branch moved = only (moved == 0) 0xE12FFF1E _ (λ is. let none : moved ≡ 0 = at_zero moved is in rw none (refl, refl))
return_back at System moved = tt

pub indirect_back : (at : ℕ) (class : Class) (moved : ℕ) → IfSome (indirect_jump_word class moved) (ReadsBack at class moved IndirectJump)
indirect_back at Alu moved = only (moved == 0) 0xE1A0F000 _ (λ is. let none : moved ≡ 0 = at_zero moved is in rw none (refl, refl))
indirect_back at Mul moved = tt
indirect_back at Div moved = tt
indirect_back at Load moved = only (moved == 0) 0xE590F000 _ (λ is. let none : moved ≡ 0 = at_zero moved is in rw none (refl, refl))
indirect_back at Store moved = tt
indirect_back at Multi moved = tt
indirect_back at Branch moved = only (moved == 0) 0xE12FFF10 _ (λ is. let none : moved ≡ 0 = at_zero moved is in rw none (refl, refl))
indirect_back at System moved = tt

-- the target of a branch over a reachable distance
record Reaches (distance : ℕ) : Type 0 where
  whole : distance % 4 ≡ 0
  near : (distance < 2 ^ 25) ⊎ (2 ^ 32 - 2 ^ 25 ≤ distance)

reaches : (distance : ℕ) → is_reachable distance ≡ true → Reaches distance
reaches distance is = record { whole = grind arith; near = grind arith }

forward : (at word target : ℕ) → at < 2 ^ 32 → target < 2 ^ 32 → field word 23 0 ≡ distance at target / 4 % 2 ^ 24 → distance at target % 4 ≡ 0 → distance at target < 2 ^ 25 → branch_target at word ≡ target
forward at word target small low is whole near =
    let clear : (bit word 23 == 1) ≡ false = (let zero_bit : bit word 23 ≡ 0 = omega arith in rw zero_bit refl) in
    rw clear (omega arith)

backward : (at word target : ℕ) → at < 2 ^ 32 → target < 2 ^ 32 → field word 23 0 ≡ distance at target / 4 % 2 ^ 24 → distance at target % 4 ≡ 0 → 2 ^ 32 - 2 ^ 25 ≤ distance at target → branch_target at word ≡ target
backward at word target small low is whole far =
    let set : (bit word 23 == 1) ≡ true = (let one_bit : bit word 23 ≡ 1 = omega arith in rw one_bit refl) in
    rw set (omega arith)

target_back : (at word target : ℕ) → at < 2 ^ 32 → target < 2 ^ 32 → field word 23 0 ≡ distance at target / 4 % 2 ^ 24 → is_reachable (distance at target) ≡ true → branch_target at word ≡ target
target_back at word target small low is reachable =
    let r : Reaches (distance at target) = reaches (distance at target) reachable in
    elim r.near [ inl near ↦ forward at word target small low is r.whole near | inr far ↦ backward at word target small low is r.whole far ]

branch_back : (at word target : ℕ) → at < 2 ^ 32 → target < 2 ^ 32 → is_unconditional word ≡ false → field word 27 25 ≡ 5 → field word 23 0 ≡ distance at target / 4 % 2 ^ 24 → is_reachable (distance at target) ≡ true → insn_of at word ≡ turned Branch 0 (if bit word 24 == 1 then Call target else Jump target) (field word 31 28 == 14)
branch_back at word target small low condition group is reachable =
    only_branch at word condition group ∙ ap (λ t. turned Branch 0 (if bit word 24 == 1 then Call t else Jump t) (field word 31 28 == 14)) (target_back at word target small low is reachable)

branch_read : (at word target : ℕ) (link always : Bool) → at < 2 ^ 32 → target < 2 ^ 32 → is_unconditional word ≡ false → field word 27 25 ≡ 5 → field word 23 0 ≡ distance at target / 4 % 2 ^ 24 → is_reachable (distance at target) ≡ true → (bit word 24 == 1) ≡ link → (field word 31 28 == 14) ≡ always → insn_of at word ≡ turned Branch 0 (if link then Call target else Jump target) always
branch_read at word target link always small low condition group is reachable l a = branch_back at word target small low condition group is reachable ∙ rw (l, a) refl

-- a word of so many times 2^24, and the rest below
record Cut (word top low : ℕ) : Type 0 where
  condition : field word 31 28 ≡ top / 16
  group : field word 27 25 ≡ top % 16 / 2
  link : bit word 24 ≡ top % 2
  rest : field word 23 0 ≡ low

cut : (top low : ℕ) → top < 256 → low < 2 ^ 24 → Cut (top * 2 ^ 24 + low) top low
cut top low few below = record { condition = omega arith; group = omega arith; link = omega arith; rest = omega arith }

read_cut : (at word target top : ℕ) (link always : Bool) → at < 2 ^ 32 → target < 2 ^ 32 → is_reachable (distance at target) ≡ true → Cut word top (distance at target / 4 % 2 ^ 24) → top / 16 < 15 → top % 16 / 2 ≡ 5 → (top % 2 == 1) ≡ link → (top / 16 == 14) ≡ always → insn_of at word ≡ turned Branch 0 (if link then Call target else Jump target) always
read_cut at word target top link always small low reachable c known group l a =
    let condition : is_unconditional word ≡ false = (let other : field word 31 28 < 15 = omega (arith, c.condition) in grind arith) in
    branch_read at word target link always small low condition (c.group ∙ group) c.rest reachable (ap (λ b. b == 1) c.link ∙ l) (ap (λ b. b == 14) c.condition ∙ a)

both_back : (at target top word : ℕ) (link : Bool) → at < 2 ^ 32 → target < 2 ^ 32 → is_reachable (distance at target) ≡ true → word ≡ (top + 208) * 2 ^ 24 + distance at target / 4 % 2 ^ 24 → top < 32 → 16 ≤ top → top % 16 / 2 ≡ 5 → (top % 2 == 1) ≡ link → (insn_of at word ≡ turned Branch 0 (if link then Call target else Jump target) true) × (insn_of at (word - 0xD0000000) ≡ turned Branch 0 (if link then Call target else Jump target) false)
both_back at target top word link small low reachable is few enough group l =
    let q = distance at target / 4 % 2 ^ 24 in
    let one : top / 16 ≡ 1 = omega arith in
    let above : Cut word (top + 208) q = subst (λ w. Cut w (top + 208) q) (sym is) (cut (top + 208) q (omega arith) (omega arith)) in
    let lower : word - 0xD0000000 ≡ top * 2 ^ 24 + q = omega (arith, is) in
    let below : Cut (word - 0xD0000000) top q = subst (λ w. Cut w top q) (sym lower) (cut top q (omega arith) (omega arith)) in
    let high : (top + 208) / 16 ≡ 14 = omega arith in
    let same : (top + 208) % 2 ≡ top % 2 = omega arith in (
      read_cut at word target (top + 208) link true small low reachable above (omega arith) (omega arith) (ap (λ b. b == 1) same ∙ l) (rw high refl),
      read_cut at (word - 0xD0000000) target top link false small low reachable below (omega arith) group l (rw one refl),
    )

pub jump_back : (at target : ℕ) → at < 2 ^ 32 → target < 2 ^ 32 → IfSome (branch_word 0xEA000000 (distance at target)) (ReadsBack at Branch 0 (Jump target))
jump_back at target small low = only (is_reachable (distance at target)) (0xEA000000 + distance at target / 4 % 2 ^ 24) _ (λ reachable. both_back at target 26 (0xEA000000 + distance at target / 4 % 2 ^ 24) false small low reachable (omega arith) (omega arith) (omega arith) refl refl)

pub call_back : (at target : ℕ) → at < 2 ^ 32 → target < 2 ^ 32 → IfSome (branch_word 0xEB000000 (distance at target)) (ReadsBack at Branch 0 (Call target))
call_back at target small low = only (is_reachable (distance at target)) (0xEB000000 + distance at target / 4 % 2 ^ 24) _ (λ reachable. both_back at target 27 (0xEB000000 + distance at target / 4 % 2 ^ 24) true small low reachable (omega arith) (omega arith) (omega arith) refl refl)

pub whole : (at : ℕ) (class : Class) (moved : ℕ) (control : Control) (word : Option ℕ) → IfSome word (ReadsBack at class moved control) → IfSome word (λ w. insn_of at w ≡ turned class moved control true)
whole at class moved control None both = tt
whole at class moved control (Some word) both = both.0

pub lowered : (at : ℕ) (class : Class) (moved : ℕ) (control : Control) (word : Option ℕ) → IfSome word (ReadsBack at class moved control) → IfSome (conditional word) (λ w. insn_of at w ≡ turned class moved control false)
lowered at class moved control None both = tt
lowered at class moved control (Some word) both = both.1

pub whole_insn : (i : Insn) (control : Control) (always : Bool) → i.control ≡ control → i.always ≡ always → turned i.class i.moved control always ≡ Some i
whole_insn i control always c a = ap (λ x. turned i.class i.moved x always) (sym c) ∙ ap (λ y. turned i.class i.moved i.control y) (sym a)

pub of_turning : (at : ℕ) (class : Class) (moved : ℕ) (control : Control) (always : Bool) → (control ≡ Next → ⊥) → of_control at class moved control always ≡ (if always then turning_word at class moved control else conditional (turning_word at class moved control))
of_turning at class moved Next always other = absurd (other refl)
of_turning at class moved (Jump target) always other = refl
of_turning at class moved (Call target) always other = refl
of_turning at class moved Return always other = refl
of_turning at class moved IndirectJump always other = refl
of_turning at class moved IndirectCall always other = refl
