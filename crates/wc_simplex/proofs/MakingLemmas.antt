-- Rows that are made one by one.
use Rattle.std.proofs.Common.{◌≡◌, ℕ, suc, ◌+◌, ◌-◌, ◌<◌, ◌≤◌, not, arith, get_or, drop, length, Bool, true, false, if◌then◌else◌, List, [], ◌∷◌, ◌++◌, map, Option, None, Some, option_and_then, option_map, refl, sym, ap, ap₂, subst, ◌∙◌}
use Rattle.std.specs.List.{filter, flat_map, range_with_len}
use Rattle.std.specs.Prelude.{All}
use Rattle.std.proofs.lemmas.List.{append_assoc, drop_all, drop_more, get_or-append_right, get_or-map, get_or_append_left, length-append, length-map}
use Rattle.std.proofs.lemmas.List.Elements.{All-append, All-map}
use Rattle.wc_model.specs.declared.flow_system.SystemLimit.{SystemLimit}
use Rattle.wc_model.specs.declared.flow_system.SystemLoop.{SystemLoop}
use Rattle.wc_model.specs.declared.flow_system.System.{System}
use Rattle.wc_model.specs.Flow.Cells.{is_passed, row_nodes}
use Rattle.wc_model.specs.Flow.Tableaus.{Half, Line, halves, limit_line, lines_of, loop_line, node_line}
use Rattle.wc_simplex.specs.declared.half.HalfRow.{HalfRow}
use Rattle.wc_simplex.specs.Inner.Halves.{half_as}
use Rattle.wc_simplex.specs.Inner.Making.{Adds, After, inequalities, inequalities_from, made_before, node_lines, nodes_from}
use Rattle.wc_simplex.specs.Inner.Steps.{behind}
use Rattle.wc_simplex.proofs.HalfLemmas.{halves_cons, line_half}
use Rattle.wc_simplex.proofs.RowLemmas.{behind_more}
use Rattle.wc_base.proofs.TestLemmas.{if_false, if_true}

-- a line was added
pub line_added : (s : System) (columns : List (List ℕ)) (slacks own : ℕ) (line : Line) (lines : List Line) (made : Option Half) (o : Option (Unit {0})) (old new : List HalfRow)
    → made ≡ line_half s columns slacks own line → Adds made o old new
    → After o (made_before old (halves s columns slacks own (line ∷ lines))) (made_before new (halves s columns slacks (if line.slack then suc own else own) lines))
line_added s columns slacks own line lines None None old new is adds =
    ap (made_before old) (halves_cons s columns slacks own line lines ∙ ap (option_and_then (λ h. option_map (λ hs. h ∷ hs) (halves s columns slacks (if line.slack then suc own else own) lines))) (sym is))
line_added s columns slacks own line lines None (Some u) old new is adds = absurd (cc)
line_added s columns slacks own line lines (Some h) None old new is adds = let wrong = adds.0 in absurd (cc)
line_added s columns slacks own line lines (Some h) (Some u) old new is adds =
    let later = halves s columns slacks (if line.slack then suc own else own) lines in
    ap (made_before old) (halves_cons s columns slacks own line lines ∙ ap (option_and_then (λ g. option_map (λ hs. g ∷ hs) (halves s columns slacks (if line.slack then suc own else own) lines))) (sym is))
    ∙ sym (behind_more (map half_as old) h (halves s columns slacks (if line.slack then suc own else own) lines))
    ∙ ap (λ front. behind front (halves s columns slacks (if line.slack then suc own else own) lines)) (sym adds.1)

pub node_left_out : (s : System) (columns : List (List ℕ)) (slacks q : ℕ) (made : List HalfRow) → true ≡ is_passed s q → (lines : List Line)
    → made_before made (halves s columns slacks 0 (node_lines s q ++ lines)) ≡ made_before made (halves s columns slacks 0 lines)
node_left_out s columns slacks q made is lines =
    ap (λ ls. made_before made (halves s columns slacks 0 (ls ++ lines))) (if_true (is_passed s q) [] (node_line s q ∷ []) (sym is))

pub node_added : (s : System) (columns : List (List ℕ)) (slacks q : ℕ) (made : Option Half) (o : Option (Unit {0})) (old new : List HalfRow) → false ≡ is_passed s q
    → made ≡ line_half s columns slacks 0 (node_line s q) → Adds made o old new → (lines : List Line)
    → After o (made_before old (halves s columns slacks 0 (node_lines s q ++ lines))) (made_before new (halves s columns slacks 0 lines))
node_added s columns slacks q made o old new other is adds lines =
    subst (λ ls. After o (made_before old (halves s columns slacks 0 (ls ++ lines))) (made_before new (halves s columns slacks 0 lines)))
    (sym (if_false (is_passed s q) [] (node_line s q ∷ []) (sym other))) (line_added s columns slacks 0 (node_line s q) lines made o old new is adds)

pub nodes_next : (s : System) (k : ℕ) → k < s.nodes → nodes_from s k ≡ node_lines s k ++ nodes_from s (k + 1)
nodes_next s k within =
    let more : s.nodes - k ≡ suc (s.nodes - (k + 1)) = omega arith in
    ap (λ n. flat_map (node_lines s) (range_with_len k n)) more

pub nodes_end : (s : System) (k : ℕ) → s.nodes ≤ k → nodes_from s k ≡ []
nodes_end s k past =
    let none_left : s.nodes - k ≡ 0 = omega arith in
    ap (λ n. flat_map (node_lines s) (range_with_len k n)) none_left

-- the node lines are those of the nodes that aren't passed through
filtered : (s : System) (nodes : List ℕ) → flat_map (node_lines s) nodes ≡ map (node_line s) (filter (λ p. not (is_passed s p)) nodes)
filtered s [] = refl
filtered s (q ∷ nodes) = by (is_passed s q) (filtered s nodes)
  where
    by : (b : Bool) → flat_map (node_lines s) nodes ≡ map (node_line s) (filter (λ p. not (is_passed s p)) nodes)
        → (if b then [] else node_line s q ∷ []) ++ flat_map (node_lines s) nodes ≡ map (node_line s) (if not b then q ∷ filter (λ p. not (is_passed s p)) nodes else filter (λ p. not (is_passed s p)) nodes)
    by true rest = rest
    by false rest = ap (λ ls. node_line s q ∷ ls) rest

pub nodes_whole : (s : System) → nodes_from s 0 ≡ map (node_line s) (row_nodes s)
nodes_whole s =
    let all : s.nodes - 0 ≡ s.nodes = omega arith in
    ap (λ n. flat_map (node_lines s) (range_with_len 0 n)) all ∙ filtered s (range_with_len 0 s.nodes)

module _ (s : System) (columns : List (List ℕ)) (slacks : ℕ) where
  -- a node was looked at
  pub nodes_stop : (k : ℕ) (start now new : List HalfRow) (o : Option (Unit {0})) → k < s.nodes
      → ((ls : List Line) → made_before start (halves s columns slacks 0 (nodes_from s 0 ++ ls)) ≡ made_before now (halves s columns slacks 0 (nodes_from s k ++ ls)))
      → ((ls : List Line) → After o (made_before now (halves s columns slacks 0 (node_lines s k ++ ls))) (made_before new (halves s columns slacks 0 ls)))
      → o ≡ None → (ls : List Line) → made_before start (halves s columns slacks 0 (nodes_from s 0 ++ ls)) ≡ None
  nodes_stop k start now new o within so_far after stopped ls =
      let here : made_before now (halves s columns slacks 0 (node_lines s k ++ (nodes_from s (k + 1) ++ ls))) ≡ None =
      subst (λ (p : Option (Unit {0})). After p (made_before now (halves s columns slacks 0 (node_lines s k ++ (nodes_from s (k + 1) ++ ls)))) (made_before new (halves s columns slacks 0 (nodes_from s (k + 1) ++ ls)))) stopped (after (nodes_from s (k + 1) ++ ls)) in
      so_far ls ∙ ap (λ l. made_before now (halves s columns slacks 0 l)) (ap (λ l. l ++ ls) (nodes_next s k within) ∙ append_assoc (node_lines s k) (nodes_from s (k + 1)) ls) ∙ here

  pub nodes_go : (k : ℕ) (start now new : List HalfRow) (o : Option (Unit {0})) (u : Unit {0}) → k < s.nodes
      → ((ls : List Line) → made_before start (halves s columns slacks 0 (nodes_from s 0 ++ ls)) ≡ made_before now (halves s columns slacks 0 (nodes_from s k ++ ls)))
      → ((ls : List Line) → After o (made_before now (halves s columns slacks 0 (node_lines s k ++ ls))) (made_before new (halves s columns slacks 0 ls)))
      → o ≡ Some u → (ls : List Line) → made_before start (halves s columns slacks 0 (nodes_from s 0 ++ ls)) ≡ made_before new (halves s columns slacks 0 (nodes_from s (k + 1) ++ ls))
  nodes_go k start now new o u within so_far after done ls =
      let here : made_before now (halves s columns slacks 0 (node_lines s k ++ (nodes_from s (k + 1) ++ ls))) ≡ made_before new (halves s columns slacks 0 (nodes_from s (k + 1) ++ ls)) =
      subst (λ (p : Option (Unit {0})). After p (made_before now (halves s columns slacks 0 (node_lines s k ++ (nodes_from s (k + 1) ++ ls)))) (made_before new (halves s columns slacks 0 (nodes_from s (k + 1) ++ ls)))) done (after (nodes_from s (k + 1) ++ ls)) in
      so_far ls ∙ ap (λ l. made_before now (halves s columns slacks 0 l)) (ap (λ l. l ++ ls) (nodes_next s k within) ∙ append_assoc (node_lines s k) (nodes_from s (k + 1)) ls) ∙ here

-- Inequalities have slacks.
all_slack : (s : System) → All (λ l. l.slack ≡ true) (inequalities s)
all_slack s =
    All-append (λ (l : Line). l.slack ≡ true) (map (loop_line s) s.loops) (map limit_line s.limits) (All-map (λ (l : Line). l.slack ≡ true) (loop_line s) s.loops (λ k d within. refl))
    (All-map (λ (l : Line). l.slack ≡ true) limit_line s.limits (λ k d within. refl))

inequalities_count : (s : System) → length (inequalities s) ≡ length s.loops + length s.limits
inequalities_count s =
    omega (arith, length-append (map (loop_line s) s.loops) (map limit_line s.limits), length-map s.loops (loop_line s), length-map s.limits limit_line)

-- the line of a loop, and that of a limit
pub loop_inequality : (s : System) (k : ℕ) (l : SystemLoop) (d : Line) → k < length s.loops → get_or (inequalities s) k d ≡ loop_line s (get_or s.loops k l)
loop_inequality s k l d within =
    get_or_append_left (map (loop_line s) s.loops) (map limit_line s.limits) d k (omega (arith, within, length-map s.loops (loop_line s))) ∙ get_or-map (loop_line s) s.loops k l d within

pub limit_inequality : (s : System) (k : ℕ) (l : SystemLimit) (d : Line) → length s.loops ≤ k → k < length s.loops + length s.limits
    → get_or (inequalities s) k d ≡ limit_line (get_or s.limits (k - length s.loops) l)
limit_inequality s k l d past within =
    get_or-append_right (map (loop_line s) s.loops) (map limit_line s.limits) (length s.loops) k d (length-map s.loops (loop_line s)) past
    ∙ get_or-map limit_line s.limits (k - length s.loops) l d (omega (arith, past, within))

-- a row was added
pub inequality_added : (s : System) (columns : List (List ℕ)) (slacks k : ℕ) (d : Line) (made : Option Half) (o : Option (Unit {0})) (old new : List HalfRow) → k < length s.loops + length s.limits
    → made ≡ line_half s columns slacks k (get_or (inequalities s) k d) → Adds made o old new
    → After o (made_before old (halves s columns slacks k (inequalities_from s k))) (made_before new (halves s columns slacks (k + 1) (inequalities_from s (k + 1))))
inequality_added s columns slacks k d made o old new within is adds =
    let there : k < length (inequalities s) = omega (arith, within, inequalities_count s) in
    let own : (if (get_or (inequalities s) k d).slack then suc k else k) ≡ k + 1 = if_true (get_or (inequalities s) k d).slack (suc k) k (all_slack s k d there) ∙ more in
    subst (λ lines. After o (made_before old (halves s columns slacks k lines)) (made_before new (halves s columns slacks (k + 1) (inequalities_from s (k + 1))))) (sym (drop_more (inequalities s) k d there))
    (subst (λ n. After o (made_before old (halves s columns slacks k (get_or (inequalities s) k d ∷ inequalities_from s (k + 1)))) (made_before new (halves s columns slacks n (inequalities_from s (k + 1))))) own
    (line_added s columns slacks k (get_or (inequalities s) k d) (inequalities_from s (k + 1)) made o old new is adds))
  where
    more : suc k ≡ k + 1
    more = omega arith

-- none is left
pub inequalities_end : (s : System) (columns : List (List ℕ)) (slacks k : ℕ) (made : List HalfRow) → length s.loops + length s.limits ≤ k
    → made_before made (halves s columns slacks k (inequalities_from s k)) ≡ made_before made (Some [])
inequalities_end s columns slacks k made past = ap (λ ls. made_before made (halves s columns slacks k ls)) (drop_all k (inequalities s) (omega (arith, past, inequalities_count s)))

-- All rows are made.
lines_parts : (s : System) → nodes_from s 0 ++ inequalities s ≡ lines_of s
lines_parts s = sym (append_assoc (nodes_from s 0) (map (loop_line s) s.loops) (map limit_line s.limits)) ∙ ap (λ ns. ns ++ map (loop_line s) s.loops ++ map limit_line s.limits) (nodes_whole s)

made_none : (o : Option (List Half)) → made_before [] o ≡ o
made_none None = refl
made_none (Some hs) = refl

append_none : (hs : List Half) → hs ++ [] ≡ hs
append_none [] = refl
append_none (h ∷ hs) = ap (λ l. h ∷ l) (append_none hs)

after_none : (o : Option (Unit {0})) (whole later : Option (List Half)) → After o whole later → o ≡ None → whole ≡ None
after_none None whole later is none = is
after_none (Some u) whole later is none = absurd (cc)

after_some : (o : Option (Unit {0})) (u : Unit {0}) (whole later : Option (List Half)) → After o whole later → o ≡ Some u → whole ≡ later
after_some None u whole later is some = absurd (cc)
after_some (Some v) u whole later is some = is

module _ (s : System) (columns : List (List ℕ)) (slacks : ℕ) (empty m1 m2 : List HalfRow) (o1 o2 : Option (Unit {0})) (nothing : empty ≡ [])
    (e1 : (ls : List Line) → After o1 (made_before empty (halves s columns slacks 0 (nodes_from s 0 ++ ls))) (made_before m1 (halves s columns slacks 0 ls))) where
  all_made : made_before empty (halves s columns slacks 0 (nodes_from s 0 ++ inequalities s)) ≡ halves s columns slacks 0 (lines_of s)
  all_made = ap (λ l. made_before l (halves s columns slacks 0 (nodes_from s 0 ++ inequalities s))) nothing ∙ made_none (halves s columns slacks 0 (nodes_from s 0 ++ inequalities s)) ∙ ap (halves s columns slacks 0) (lines_parts s)

  pub nodes_fail : o1 ≡ None → None ≡ halves s columns slacks 0 (lines_of s)
  nodes_fail none = sym (sym all_made ∙ after_none o1 (made_before empty (halves s columns slacks 0 (nodes_from s 0 ++ inequalities s))) (made_before m1 (halves s columns slacks 0 (inequalities s))) (e1 (inequalities s)) none)

  module _ (u1 : Unit {0}) (some1 : o1 ≡ Some u1) (e2 : After o2 (made_before m1 (halves s columns slacks 0 (inequalities s))) (made_before m2 (Some []))) where
    nodes_made : halves s columns slacks 0 (lines_of s) ≡ made_before m1 (halves s columns slacks 0 (inequalities s))
    nodes_made = sym all_made ∙ after_some o1 u1 (made_before empty (halves s columns slacks 0 (nodes_from s 0 ++ inequalities s))) (made_before m1 (halves s columns slacks 0 (inequalities s))) (e1 (inequalities s)) some1

    pub inequalities_fail : o2 ≡ None → None ≡ halves s columns slacks 0 (lines_of s)
    inequalities_fail none = sym (nodes_made ∙ after_none o2 (made_before m1 (halves s columns slacks 0 (inequalities s))) (made_before m2 (Some [])) e2 none)

    pub all_there : (u2 : Unit {0}) → o2 ≡ Some u2 → Some (map half_as m2) ≡ halves s columns slacks 0 (lines_of s)
    all_there u2 some2 = sym (nodes_made ∙ after_some o2 u2 (made_before m1 (halves s columns slacks 0 (inequalities s))) (made_before m2 (Some [])) e2 some2 ∙ ap Some (append_none (map half_as m2)))
