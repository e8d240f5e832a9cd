use Rattle.std.proofs.Common.{◌≡◌, ◌<◌, ℕ, List, [], refl, sym, ap, ◌∙◌, map, length, rules, arith}
use Rattle.wc_io.proofs.FileLemmas.{absent, found, first_failing, first_within, made, none_failing, set_emptied}
use Rattle.wc_io.specs.Memory.{seen}
use Rattle.wc_io.specs.declared.memory_files.MemoryFile.{MemoryFile}
use Rattle.wc_io.proofs.memory_files.empty_file.Goals as goal

pub index-requires : goal.index-requires
index-requires c =
    let within : c.in-Some.i < length c.args.files.now.items = first_within _ _ _ (found c.args.path.now c.args.files.now.items c.in-Some.i (cc c.in-Some.ensures)) in
    omega (arith, c.deref.ensures.len, ap length c.deref.ensures.value)

pub index_mut-requires : goal.index_mut-requires
index_mut-requires c =
    let within : c.in-Some.i < length c.args.files.now.items = first_within _ _ _ (found c.args.path.now c.args.files.now.items c.in-Some.i (cc c.in-Some.ensures)) in
    omega (arith, c.deref.ensures.len, ap length c.deref.ensures.value)

pub returns-in_ok-failing-in-Some-clause-files : goal.returns-in_ok-failing-in-Some-clause-files
returns-in_ok-failing-in-Some-clause-files c =
    set_emptied _ _ _ _ c.index_mut.result.now (found c.args.path.now c.args.files.now.items c.in-Some.i (cc c.in-Some.ensures))
    (ap (λ (bytes : List ℕ). record (seen c.index_mut.result.now) { bytes = bytes }) c.clear.ensures.items
    ∙ ap (λ (f : MemoryFile). record (seen f) { bytes = [] }) c.index_mut.ensures.value)

pub returns-in_ok-failing-in-Some-clause-failing : goal.returns-in_ok-failing-in-Some-clause-failing
returns-in_ok-failing-in-Some-clause-failing c =
    let copied : c.in_ok-failing-in-Some.failing.items ≡ c.index.result.now.failing.items = search rules in
    copied ∙ ap (λ (f : MemoryFile). f.failing.items) c.index.ensures
    ∙ sym (first_failing _ _ _ _ (found c.args.path.now c.args.files.now.items c.in-Some.i (cc c.in-Some.ensures)))

pub returns-in_ok-push-in-None-clause-files : goal.returns-in_ok-push-in-None-clause-files
returns-in_ok-push-in-None-clause-files c =
    rw c.in_ok-push-in-None.ensures.items
    (made _ _ _ (absent 0 c.args.path.now c.args.files.now.items (cc c.in-None.ensures))
    (rw (c.in_ok-from_str-in-None.ensures.ok, c.new.ensures.items, c.new-in-None.ensures.items) refl))

pub returns-in_ok-push-in-None-clause-failing : goal.returns-in_ok-push-in-None-clause-failing
returns-in_ok-push-in-None-clause-failing c =
    c.new-in-None-2.ensures.items ∙ sym (none_failing c.args.path.now (map seen c.args.files.now.items) (absent 0 c.args.path.now c.args.files.now.items (cc c.in-None.ensures)))
