-- The printed hardware as a JSON value, before and after it is read.
use Rattle.std.proofs.Common.{◌≡◌, ℕ, List, [], ◌∷◌, ◌++◌, Option, Some, None, codes, decimal, refl, ap, ◌∙◌, sym, append_assoc}
use Rattle.json.specs.Json as json
use Rattle.json.specs.Print.{print, print_from, escape_byte}
use Rattle.json.specs.Tree.{json_tokens}
use Rattle.serde_json.specs.Data.{Data, unsigned, null, number, string, object, no_members, member}
use Rattle.wc_hw.specs.HardwareText.{joined, hardware_text, cycles_text, icache_text, start_text}
use Rattle.wc_model.specs.declared.machine.Cache.{Cache}
use Rattle.wc_model.specs.declared.machine.Cycles.{Cycles}
use Rattle.wc_model.specs.declared.machine.Hardware.{Hardware}
use Rattle.wc_model.specs.declared.machine.StartState.{StartState}
use Rattle.wc_model.specs.declared.machine.StartState.TheVariants.{Empty, Any}

-- The tree that the text writes out.

abbrev whole_number : ℕ → json.Json
whole_number n = json.number (decimal n)

abbrev pub cycles_tree : Cycles → json.Json
cycles_tree c =
    json.object (json.member (codes "alu") (whole_number c.alu) (json.member (codes "mul") (whole_number c.mul) (json.member (codes "div") (whole_number c.div)
    (json.member (codes "load") (whole_number c.load) (json.member (codes "store") (whole_number c.store) (json.member (codes "multi") (whole_number c.multi)
    (json.member (codes "branch") (whole_number c.branch) (json.member (codes "system") (whole_number c.system) (json.member (codes "taken") (whole_number c.taken)
    (json.member (codes "per_register") (whole_number c.per_register) json.no_members))))))))))

abbrev pub start_word : StartState → List ℕ
start_word Empty = codes "empty"
start_word Any = codes "any"

abbrev pub cache_tree : Cycles → Option Cache → json.Json
cache_tree y None = json.null
cache_tree y (Some c) =
    json.object (json.member (codes "sets") (whole_number c.sets) (json.member (codes "ways") (whole_number c.ways) (json.member (codes "line") (whole_number c.line)
    (json.member (codes "hit") (whole_number y.hit) (json.member (codes "miss") (whole_number y.miss) (json.member (codes "start") (json.string (start_word c.start)) json.no_members))))))

abbrev pub tree : Cycles → Option Cache → json.Json
tree y cache = json.object (json.member (codes "cycles") (cycles_tree y) (json.member (codes "icache") (cache_tree y cache) json.no_members))

-- The data that it is read as, with its keys in order.

abbrev read_number : ℕ → Data
read_number n = number (unsigned n)

abbrev pub cycles_data : Cycles → Data
cycles_data c =
    object (member (codes "alu") (read_number c.alu) (member (codes "branch") (read_number c.branch) (member (codes "div") (read_number c.div)
    (member (codes "load") (read_number c.load) (member (codes "mul") (read_number c.mul) (member (codes "multi") (read_number c.multi)
    (member (codes "per_register") (read_number c.per_register) (member (codes "store") (read_number c.store) (member (codes "system") (read_number c.system)
    (member (codes "taken") (read_number c.taken) no_members))))))))))

abbrev pub cache_data : Cycles → Option Cache → Data
cache_data y None = null
cache_data y (Some c) =
    object (member (codes "hit") (read_number y.hit) (member (codes "line") (read_number c.line) (member (codes "miss") (read_number y.miss)
    (member (codes "sets") (read_number c.sets) (member (codes "start") (string (start_word c.start)) (member (codes "ways") (read_number c.ways) no_members))))))

abbrev pub data_of : Cycles → Option Cache → Data
data_of y cache = object (member (codes "cycles") (cycles_data y) (member (codes "icache") (cache_data y cache) no_members))

-- The text is the print of the tree.

joined-append : (xs ys : List (List ℕ)) → joined (xs ++ ys) ≡ joined xs ++ joined ys
joined-append [] ys = refl
joined-append (x ∷ xs) ys = ap (λ t. x ++ t) (joined-append xs ys) ∙ sym (append_assoc x (joined xs) (joined ys))

abbrev pub cycles_pieces : Cycles → List (List ℕ)
cycles_pieces c = codes "{\"cycles\":{\"alu\":" ∷ decimal c.alu ∷ codes ",\"mul\":" ∷ decimal c.mul ∷ codes ",\"div\":" ∷ decimal c.div
    ∷ codes ",\"load\":" ∷ decimal c.load ∷ codes ",\"store\":" ∷ decimal c.store ∷ codes ",\"multi\":" ∷ decimal c.multi
    ∷ codes ",\"branch\":" ∷ decimal c.branch ∷ codes ",\"system\":" ∷ decimal c.system ∷ codes ",\"taken\":" ∷ decimal c.taken
    ∷ codes ",\"per_register\":" ∷ decimal c.per_register ∷ codes "},\"icache\":" ∷ []

abbrev pub cache_pieces : Cycles → Option Cache → List (List ℕ)
cache_pieces y None = codes "null}" ∷ []
cache_pieces y (Some c) = codes "{\"sets\":" ∷ decimal c.sets ∷ codes ",\"ways\":" ∷ decimal c.ways ∷ codes ",\"line\":" ∷ decimal c.line
    ∷ codes ",\"hit\":" ∷ decimal y.hit ∷ codes ",\"miss\":" ∷ decimal y.miss ∷ start_text c.start ∷ []

cache_joined : (y : Cycles) (cache : Option Cache) → joined (cache_pieces y cache) ≡ icache_text y cache
cache_joined y None = refl
cache_joined y (Some c) = refl

uncached_print : (y : Cycles) → print (json_tokens (tree y None)) ≡ joined (cycles_pieces y ++ cache_pieces y None)
unfolding print_from escape_byte
uncached_print y = refl

empty_print : (y : Cycles) (c : Cache) → c.start ≡ Empty → print (json_tokens (tree y (Some c))) ≡ joined (cycles_pieces y ++ cache_pieces y (Some c))
unfolding print_from escape_byte
empty_print y c is = rw is refl

any_print : (y : Cycles) (c : Cache) → c.start ≡ Any → print (json_tokens (tree y (Some c))) ≡ joined (cycles_pieces y ++ cache_pieces y (Some c))
unfolding print_from escape_byte
any_print y c is = rw is refl

started_print : (y : Cycles) (c : Cache) (start : StartState) → c.start ≡ start → print (json_tokens (tree y (Some c))) ≡ joined (cycles_pieces y ++ cache_pieces y (Some c))
started_print y c Empty is = empty_print y c is
started_print y c Any is = any_print y c is

tree_print : (y : Cycles) (cache : Option Cache) → print (json_tokens (tree y cache)) ≡ joined (cycles_pieces y ++ cache_pieces y cache)
tree_print y None = uncached_print y
tree_print y (Some c) = started_print y c c.start refl

pub text_is : (h : Hardware) → print (json_tokens (tree h.cycles h.cache)) ≡ hardware_text h
text_is h =
    tree_print h.cycles h.cache ∙ joined-append (cycles_pieces h.cycles) (cache_pieces h.cycles h.cache)
    ∙ ap (λ t. cycles_text h.cycles ++ t) (cache_joined h.cycles h.cache)
