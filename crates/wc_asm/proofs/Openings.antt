-- The two headers at the front of a program's file, as they are read.
use Rattle.std.proofs.Common.{◌≡◌, ℕ, ◌+◌, ◌*◌, ◌^◌, ◌<◌, ◌≤◌, true, List, [], ◌∷◌, ◌++◌, length, flat_map, drop, ap, ap₂, subst, sym, ◌∙◌, refl, arith, le-leb, eq-eqb}
use Rattle.wc_model.specs.Program.Elf.{byte, word, e_type, e_machine, e_phoff, e_shoff, e_phentsize, e_phnum, e_shentsize, e_shnum, p_type, p_offset, p_vaddr, p_filesz, p_flags, is_executable, program_headers, entries}
use Rattle.wc_model.specs.Program.Image.{header_checks, range_checks, program_table_checks, segment_checks, segment_range, ranges_of}
use Rattle.wc_asm.specs.Files.{file_header, program_header, halves}
use Rattle.wc_asm.proofs.Parts.{word_of_part}
use Rattle.wc_asm.proofs.Passes.{Pass, inside, pass_both}

-- the file header, with the section headers at `sections`
pub record IsOpening (file : List ℕ) (sections : ℕ) : Type 0 where
  pub magic : word file 0 ≡ 0x464C457F
  pub class : byte file 4 ≡ 1
  pub order : byte file 5 ≡ 1
  pub version : byte file 6 ≡ 1
  pub kind : e_type file ≡ 2
  pub machine : e_machine file ≡ 40
  pub phoff : e_phoff file ≡ 52
  pub shoff : e_shoff file ≡ sections
  pub phentsize : e_phentsize file ≡ 32
  pub phnum : e_phnum file ≡ 1
  pub shentsize : e_shentsize file ≡ 40
  pub shnum : e_shnum file ≡ 3

pub opening : (start sections : ℕ) (rest : List ℕ) → sections < 2 ^ 32 → IsOpening (file_header start sections ++ rest) sections
opening start sections rest small =
    record {
      magic = refl;
      class = refl;
      order = refl;
      version = refl;
      kind = refl;
      machine = refl;
      phoff = refl;
      shoff = word_of_part (file_header start sections ++ rest) 20 32 (1 ∷ start ∷ 52 ∷ sections ∷ 0x05000000 ∷ []) (halves (52 ∷ 32 ∷ 1 ∷ 40 ∷ 3 ∷ 2 ∷ []) ++ rest) 3 refl refl (omega arith) small;
      phentsize = refl;
      phnum = refl;
      shentsize = refl;
      shnum = refl;
    }

-- the program header at 52, of `size` bytes of code at `start`
pub record IsSegment (file : List ℕ) (start size : ℕ) : Type 0 where
  pub kind : p_type file 52 ≡ 1
  pub offset : p_offset file 52 ≡ 84
  pub vaddr : p_vaddr file 52 ≡ start
  pub filesz : p_filesz file 52 ≡ size
  pub flags : p_flags file 52 ≡ 5

pub segment : (file : List ℕ) (start size : ℕ) (rest : List ℕ) → drop 52 file ≡ program_header start size ++ rest → start < 2 ^ 32 → size < 2 ^ 32 → IsSegment file start size
segment file start size rest is low few =
    let fields : List ℕ = 1 ∷ 84 ∷ start ∷ start ∷ size ∷ size ∷ 5 ∷ 4 ∷ [] in
    record {
      kind = word_of_part file 52 52 fields rest 0 is refl (omega arith) (omega arith);
      offset = word_of_part file 52 56 fields rest 1 is refl (omega arith) (omega arith);
      vaddr = word_of_part file 52 60 fields rest 2 is refl (omega arith) low;
      filesz = word_of_part file 52 68 fields rest 4 is refl (omega arith) few;
      flags = word_of_part file 52 76 fields rest 6 is refl (omega arith) (omega arith);
    }

pub header_passes : (file : List ℕ) (sections : ℕ) → IsOpening file sections → 52 ≤ length file → Pass (header_checks file)
header_passes file sections is long = (
  inside file 0 52 0 52 refl refl long,
  (
    eq-eqb (word file 0) 0x464C457F is.magic,
    (
      eq-eqb (byte file 4) 1 is.class,
      (eq-eqb (byte file 5) 1 is.order, (eq-eqb (byte file 6) 1 is.version, (eq-eqb (e_type file) 2 is.kind, (eq-eqb (e_machine file) 40 is.machine, tt)))),
    ),
  ),
)

one_header : (file : List ℕ) (sections : ℕ) → IsOpening file sections → program_headers file ≡ 52 ∷ []
one_header file sections is = ap₂ (λ at count. entries at 32 count) is.phoff is.phnum

executable : (file : List ℕ) (start size : ℕ) → IsSegment file start size → is_executable file 52 ≡ true
executable file start size is = rw (is.kind, is.flags) refl

segment_passes : (file : List ℕ) (start size : ℕ) → IsSegment file start size → 84 + size ≤ length file → start + size ≤ 2 ^ 32 → Pass (segment_checks file 52)
segment_passes file start size is long ends =
    rw (executable file start size is) (
      inside file (p_offset file 52) (p_filesz file 52) 84 size is.offset is.filesz long,
      (le-leb (p_vaddr file 52 + p_filesz file 52) (2 ^ 32) (omega (arith, is.vaddr, is.filesz)), tt),
    )

table_passes : (file : List ℕ) (sections : ℕ) → IsOpening file sections → 84 ≤ length file → Pass (program_table_checks file)
table_passes file sections is long = rw is.phnum (eq-eqb (e_phentsize file) 32 is.phentsize, (inside file (e_phoff file) (32 * 1) 52 32 is.phoff refl long, tt))

pub ranges_pass : (file : List ℕ) (sections start size : ℕ) → IsOpening file sections → IsSegment file start size → 84 + size ≤ length file → start + size ≤ 2 ^ 32 → Pass (range_checks file)
ranges_pass file sections start size o s long ends =
    pass_both (program_table_checks file) (flat_map (segment_checks file) (program_headers file)) (table_passes file sections o (omega arith)) (
    subst (λ headers. Pass (flat_map (segment_checks file) headers)) (sym (one_header file sections o)) (pass_both (segment_checks file 52) [] (segment_passes file start size s long ends) tt)
    )

one_range : (file : List ℕ) (start size : ℕ) → IsSegment file start size → segment_range file 52 ≡ record { start = start; offset = 84; length = size } ∷ []
one_range file start size is = rw (executable file start size is, is.vaddr, is.offset, is.filesz) refl

pub ranges_are : (file : List ℕ) (sections start size : ℕ) → IsOpening file sections → IsSegment file start size → ranges_of file ≡ record { start = start; offset = 84; length = size } ∷ []
ranges_are file sections start size o s = ap (flat_map (segment_range file)) (one_header file sections o) ∙ ap (λ r. r ++ []) (one_range file start size s)
