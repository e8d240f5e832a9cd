-- Files say one thing: what they hold, or their first fault.
use Rattle.std.proofs.Common.{◌≡◌, ℕ, Bool, true, false, List, [], Option, Some, None, IfSome, IsSome, Result, Ok, Err, sym, ap, ap₂, subst, ◌∙◌, inl, inr, find, arith}
use Rattle.wc_base.specs.declared.faults.Fault.{Fault as FaultCode}
use Rattle.wc_base.specs.declared.faults.FileWord.{FileWord}
use Rattle.wc_base.specs.declared.faults.FileWord.TheVariants.{Binary, Hardware as HardwareFile, Facts as FactsFile}
use Rattle.wc_base.specs.declared.troubles.Trouble.TheVariants.{Fault as Refused}
use Rattle.wc_f4.specs.Reading.{ReadsFacts, found, names_of}
use Rattle.wc_f4.proofs.GivenBack.{gives_all}
use Rattle.wc_hw.proofs.OneReading.{no_fault}
use Rattle.wc_model.specs.declared.elf_image.Image.{Image}
use Rattle.wc_model.specs.declared.elf_image.Name.{Name}
use Rattle.wc_model.specs.declared.flow_facts.Fact.{Fact}
use Rattle.wc_model.specs.Workspace.Hardware.{default_hardware}
use Rattle.wc_model.specs.Program.Image.{names_of as names_in}
use Rattle.wc_model.specs.Program.Words.{address_of, is_called}
use Rattle.wcet.specs.declared.loading.Loaded.{Loaded}
use Rattle.wcet.specs.Files.{MayBe, Holds, IsTold, Within, ImageSays, TimingSays, FactsSay, FileSays, OptionalSays, BinarySays, FactsFileSays, AreTold, AreInputs, IsFirstFault, of_binary, of_hardware, of_facts}
use Rattle.wcet.specs.Words.{Paths}

-- no bytes have both a value and a fault
abbrev SaysOnce : {T : Type 0} → (List ℕ → Result T FaultCode → Type 0) → Type 0
SaysOnce {T = T} says = (bytes : List ℕ) (x : T) (fault : FaultCode) → says bytes (Ok x) → says bytes (Err fault) → ⊥

image_once : SaysOnce ImageSays
image_once bytes image fault is failed = let none : None ≡ Some fault = sym is.sound ∙ failed in cc

timing_once : SaysOnce TimingSays
timing_once bytes hardware fault is refused = no_fault bytes hardware fault is refused

facts_once : (image : Image) → SaysOnce (FactsSay image)
facts_once image bytes facts fault is refused = gives_all (names_of image) facts bytes (Err (Refused fault)) is refused

within_once : {T : Type 0} (word : FileWord) (says : List ℕ → Result T FaultCode → Type 0) → SaysOnce says → SaysOnce (Within word says)
within_once word says once bytes x fault is (inl (long, _)) = omega (arith, is.0)
within_once word says once bytes x fault is (inr (short, failed)) = once bytes x fault is.1 failed

-- a told file has no other bytes
same_bytes : (told : Option (List ℕ)) (tells : Bool) (a b : List ℕ) → told ≡ Some a → MayBe told tells b → b ≡ a
same_bytes told tells a b is may = subst (λ (o : Option (List ℕ)). MayBe o tells b) is may

file_once : {T : Type 0} (says : List ℕ → Result T FaultCode → Type 0) (files : List ℕ → Option (List ℕ)) (tells : Bool) (path : List ℕ) (x : T) (fault : FaultCode)
    → SaysOnce says → FileSays (Holds tells files path) says (Ok x) → FileSays (IsTold files path) says (Err fault) → ⊥
file_once says files tells path x fault once (b, may, is) (a, told, failed) =
    once a x fault (subst (λ (bytes : List ℕ). says bytes (Ok x)) (same_bytes (files path) tells a b told may) is) failed

optional_once : {T : Type 0} (absent : T) (says : List ℕ → Result T FaultCode → Type 0) (files : List ℕ → Option (List ℕ)) (tells : Bool) (path : Option (List ℕ)) (x : T) (fault : FaultCode)
    → SaysOnce says → OptionalSays (Holds tells files) absent says path (Ok x) → OptionalSays (IsTold files) absent says path (Err fault) → ⊥
optional_once absent says files tells None x fault once is failed = absurd (cc)
optional_once absent says files tells (Some path) x fault once is failed = file_once says files tells path x fault once is failed

-- images of the same bytes have the same names
one_image : (files : List ℕ → Option (List ℕ)) (tells : Bool) (path : List ℕ) (image other : Image) → BinarySays (Holds tells files) path (Ok image) → BinarySays (IsTold files) path (Ok other) → names_of image ≡ names_of other
one_image files tells path image other (b, may, is) (a, told, also) =
    let same : b ≡ a = same_bytes (files path) tells a b told may in
    ap₂ (λ (bytes : List ℕ) (names : List Name). λ (name : List ℕ). found (address_of (find (is_called bytes name) names))) (is.1.bytes ∙ same ∙ sym also.1.bytes) (is.1.names ∙ ap names_in same ∙ sym also.1.names)

same_names : (holds : List ℕ → List ℕ → Type 0) (image other : Image) (path : Option (List ℕ)) (facts : List Fact) → names_of image ≡ names_of other → FactsFileSays holds image path (Ok facts) → FactsFileSays holds other path (Ok facts)
same_names holds image other None facts same is = is
same_names holds image other (Some path) facts same (bytes, may, (short, reads)) = (bytes, may, (short, subst (λ (names : List ℕ → Option ℕ). ReadsFacts names bytes (Ok facts)) same reads))

pub inputs_faultless : (files : List ℕ → Option (List ℕ)) (tells : Bool) (paths : Paths) (loaded : Loaded) (fault : FaultCode) (read : List (List ℕ))
    → AreInputs (Holds tells files) paths loaded → IsFirstFault (IsTold files) paths fault read → ⊥
inputs_faultless files tells paths loaded fault read inputs (of_binary _ failed) =
    file_once (Within Binary ImageSays) files tells paths.binary loaded.image fault (within_once Binary ImageSays image_once) inputs.image failed
inputs_faultless files tells paths loaded fault read inputs (of_hardware _ image is failed) =
    optional_once default_hardware (Within HardwareFile TimingSays) files tells paths.hardware loaded.hardware fault (within_once HardwareFile TimingSays timing_once) inputs.timing failed
inputs_faultless files tells paths loaded fault read inputs (of_facts _ image hardware is timing failed) =
    optional_once [] (Within FactsFile (FactsSay image)) files tells paths.facts loaded.facts.items fault (within_once FactsFile (FactsSay image) (facts_once image))
    (same_names (Holds tells files) loaded.image image paths.facts loaded.facts.items (one_image files tells paths.binary loaded.image image inputs.image is) inputs.facts) failed

-- what told files may have they have
told_bytes : (told : Option (List ℕ)) (tells : Bool) (bytes : List ℕ) → IsSome told → MayBe told tells bytes → told ≡ Some bytes
told_bytes (Some all) tells bytes some same = ap (λ (b : List ℕ). Some b) (sym same)
told_bytes None tells bytes some may = let none : false ≡ true = some in cc

told_file : {T : Type 0} (says : List ℕ → Result T FaultCode → Type 0) (files : List ℕ → Option (List ℕ)) (tells : Bool) (path : List ℕ) (result : Result T FaultCode)
    → IsSome (files path) → FileSays (Holds tells files path) says result → FileSays (IsTold files path) says result
told_file says files tells path result some (bytes, may, is) = (bytes, told_bytes (files path) tells bytes some may, is)

told_optional : {T : Type 0} (absent : T) (says : List ℕ → Result T FaultCode → Type 0) (files : List ℕ → Option (List ℕ)) (tells : Bool) (path : Option (List ℕ)) (result : Result T FaultCode)
    → IfSome path (λ path. IsSome (files path)) → OptionalSays (Holds tells files) absent says path result → OptionalSays (IsTold files) absent says path result
told_optional absent says files tells None result some is = is
told_optional absent says files tells (Some path) result some is = told_file says files tells path result some is

pub told_fault : (files : List ℕ → Option (List ℕ)) (tells : Bool) (paths : Paths) (fault : FaultCode) (read : List (List ℕ))
    → AreTold files paths → IsFirstFault (Holds tells files) paths fault read → IsFirstFault (IsTold files) paths fault read
told_fault files tells paths fault read told (of_binary _ failed) = of_binary fault (told_file (Within Binary ImageSays) files tells paths.binary (Err fault) told.binary failed)
told_fault files tells paths fault read told (of_hardware _ image is failed) =
    of_hardware fault image (told_file (Within Binary ImageSays) files tells paths.binary (Ok image) told.binary is)
    (told_optional default_hardware (Within HardwareFile TimingSays) files tells paths.hardware (Err fault) told.hardware failed)
told_fault files tells paths fault read told (of_facts _ image hardware is timing failed) =
    of_facts fault image hardware (told_file (Within Binary ImageSays) files tells paths.binary (Ok image) told.binary is)
    (told_optional default_hardware (Within HardwareFile TimingSays) files tells paths.hardware (Ok hardware) told.hardware timing)
    (told_optional [] (Within FactsFile (FactsSay image)) files tells paths.facts (Err fault) told.facts failed)
