use Rattle.std.proofs.Common.{◌≡◌, ◌∙◌, refl, ap, sym, subst, Some, true, false, IfSome}
use Rattle.wc_asm.specs.Canonical.{conditional}
use Rattle.wc_model.specs.Program.Instruction.{insn_of}
use Rattle.wc_model.specs.declared.instructions.Control.TheVariants.{Next}
use Rattle.wc_asm.proofs.ReadBack.{whole, lowered, whole_insn, of_turning}
use Rattle.wc_asm.proofs.encode.word_of.Goals as goal

pub returns-in-Next-clause-read : goal.returns-in-Next-clause-read
returns-in-Next-clause-read c = subst (λ o. IfSome c.next_word.result (λ w. insn_of c.args.at w ≡ o)) (whole_insn c.args.insn.now Next true c.in-Next.is c.if-insn.true) (c.next_word.ensures.read c.args.at)

pub returns-in_default : goal.returns-in_default
returns-in_default c =
    let i = c.args.insn.now in
    record {
      table = c.turning_word.ensures.table ∙ sym (of_turning c.args.at i.class i.moved i.control i.always c.in_default.not-Next ∙ rw c.if-insn-2.true refl);
      read = subst (λ o. IfSome c.turning_word.result (λ w. insn_of c.args.at w ≡ o)) (whole_insn i i.control true refl c.if-insn-2.true) (whole c.args.at i.class i.moved i.control c.turning_word.result c.turning_word.ensures.read);
    }

pub returns-in_default-2 : goal.returns-in_default-2
returns-in_default-2 c =
    let i = c.args.insn.now in
    let t = c.turning_word-in_default-2 in
    record {
      table = c.conditional.ensures ∙ ap conditional t.ensures.table ∙ sym (of_turning c.args.at i.class i.moved i.control i.always c.in_default-2.not-Next ∙ rw c.if-insn-2.false refl);
      read = subst (λ r. IfSome r (λ w. insn_of c.args.at w ≡ Some i)) (sym c.conditional.ensures) (subst (λ o. IfSome (conditional t.result) (λ w. insn_of c.args.at w ≡ o)) (whole_insn i i.control false refl c.if-insn-2.false) (lowered c.args.at i.class i.moved i.control t.result t.ensures.read));
    }
