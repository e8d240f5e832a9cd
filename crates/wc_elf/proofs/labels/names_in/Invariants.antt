use Rattle.std.proofs.Common.{◌≡◌, ◌+◌, ◌≤◌, ◌++◌, flat_map, length, All}
use Rattle.wc_model.specs.Program.Elf.{symbols}
use Rattle.wc_model.specs.Program.Image.{first_fault, label_checks, label_name}
use Rattle.wc_elf.proofs.Steps.{rest}
use Rattle.wc_elf.proofs.labels.names_in.Given as goal

abbrev pub invariant-loop-index : goal.invariant-loop-index
invariant-loop-index l =
    record {
      names : l.names.items ++ flat_map (label_name l.file l.header) (rest l.table.symbols 16 l.table.count l.index) ≡ flat_map (label_name l.file l.header) (symbols l.file l.header);
      faults : first_fault (flat_map (label_checks l.file l.header) (rest l.table.symbols 16 l.table.count l.index)) ≡ first_fault (flat_map (label_checks l.file l.header) (symbols l.file l.header));
      inside : All (λ n. n.offset + n.length ≤ length l.file) l.names.items;
    }
