use Rattle.std.proofs.Common.{◌≡◌, ◌∙◌, sym, arith}
use Rattle.wc_model.specs.Program.Instruction.{field, bit}
use Rattle.wc_a32.proofs.Rows.{only_extension, only_register, only_immediate, only_transfer, only_media, only_multiple, only_branch, only_call, none}
use Rattle.wc_a32.proofs.decode.insn.Goals as goal

pub returns-in-0-clause-table : goal.returns-in-0-clause-table
returns-in-0-clause-table c =
    let group : field c.args.word 27 25 ≡ 0 = omega (arith, c.field-2.ensures, c.in-0.is) in
    let seven : bit c.args.word 7 ≡ 1 = grind (arith, c.is_set.ensures, c.if-is_set.true) in
    let four : bit c.args.word 4 ≡ 1 = grind (arith, c.is_set-then-is_set.ensures, c.if-is_set-2.true) in
    c.extension_space.ensures.table ∙ sym (only_extension c.args.at c.args.word (grind arith) group seven four)

pub returns-in-0-2-clause-table : goal.returns-in-0-2-clause-table
returns-in-0-2-clause-table c = c.register_form.ensures.table ∙ sym (only_register c.args.at c.args.word (grind arith) (grind arith) (grind arith))

pub returns-in-1-clause-table : goal.returns-in-1-clause-table
returns-in-1-clause-table c = c.immediate_form.ensures.table ∙ sym (only_immediate c.args.at c.args.word (grind arith) (grind arith))

pub returns-in-2-clause-table : goal.returns-in-2-clause-table
returns-in-2-clause-table c = c.transfer.ensures.table ∙ sym (only_transfer c.args.at c.args.word (grind arith) (grind arith))

pub returns-in-3-clause-table : goal.returns-in-3-clause-table
returns-in-3-clause-table c = c.transfer-in-3.ensures.table ∙ sym (only_transfer c.args.at c.args.word (grind arith) (grind arith))

pub returns-in-3-2-clause-table : goal.returns-in-3-2-clause-table
returns-in-3-2-clause-table c = c.media.ensures.table ∙ sym (only_media c.args.at c.args.word (grind arith) (grind arith) (grind arith))

pub returns-in-4-clause-table : goal.returns-in-4-clause-table
returns-in-4-clause-table c = c.multiple.ensures.table ∙ sym (only_multiple c.args.at c.args.word (grind arith) (grind arith))

pub returns-in-5-clause-table : goal.returns-in-5-clause-table
returns-in-5-clause-table c = c.branch-at.ensures.table ∙ sym (only_branch c.args.at c.args.word (grind arith) (grind arith))

pub returns-in-7-clause-table : goal.returns-in-7-clause-table
returns-in-7-clause-table c = c.next.ensures ∙ sym (only_call c.args.at c.args.word (grind arith) (grind arith) (grind arith))

pub returns-in_default-clause-table : goal.returns-in_default-clause-table
returns-in_default-clause-table c = sym (none c.args.at c.args.word (grind arith) (grind arith))

pub returns-in_default-2-clause-table : goal.returns-in_default-2-clause-table
returns-in_default-2-clause-table c = sym (none c.args.at c.args.word (grind arith) (grind arith))
