use Rattle.std.proofs.Common.{◌<◌, ap, length, arith}
use Rattle.wc_io.proofs.FileLemmas.{absent, found, first_within, none_filled, set_filled}
use Rattle.wc_io.specs.Memory.{seen}
use Rattle.wc_io.specs.declared.memory_files.MemoryFile.{MemoryFile}
use Rattle.wc_io.proofs.memory_files.fill_file.Goals as goal

pub index_mut-requires : goal.index_mut-requires
index_mut-requires c =
    let within : c.in-Some.i < length c.args.files.now.items = first_within _ _ _ (found c.args.path.now c.args.files.now.items c.in-Some.i (cc c.in-Some.ensures)) in
    omega (arith, c.deref.ensures.len, ap length c.deref.ensures.value)

pub returns-in-Some : goal.returns-in-Some
returns-in-Some c =
    set_filled _ _ _ _ _ c.index_mut.result.now (found c.args.path.now c.args.files.now.items c.in-Some.i (cc c.in-Some.ensures))
    (ap (λ (f : MemoryFile). record (seen f) { bytes = c.args.bytes.items }) c.index_mut.ensures.value)

pub returns-in_default : goal.returns-in_default
returns-in_default c = none_filled _ _ _ (absent 0 c.args.path.now c.args.files.now.items (cc c.in_default.ensures))
