-- One list more behind the others.
use Rattle.std.proofs.Common.{ℕ, zero, suc, ◌≡◌, ◌+◌, ◌-◌, ◌≤◌, ⊎_elim, List, [], ◌∷◌, ◌++◌, take, drop, Some, length, refl, ap, subst, ◌∙◌, arith}
use Rattle.std.specs.List.{slice_get}
use Rattle.std.proofs.Math.Seq.{drop-append_seam, take-length}
use Rattle.std.proofs.lemmas.List.{map-append, take-append-le}
use Rattle.std.proofs.lemmas.Option.{none-some, same_Some}
use Rattle.wc_model.proofs.Places.{get_push_cases}
use Rattle.wc_graph.specs.declared.frames.Leap.{Leap}
use Rattle.wc_graph.specs.declared.rows.Piece.{Piece}
use Rattle.wc_graph.specs.Inner.Rows.{row_of, rows_of, ArePieces}

range_front : (xs more : List Leap) (a n : ℕ) → a + n ≤ length xs → take n (drop a (xs ++ more)) ≡ take n (drop a xs)
range_front xs more zero n less = take-append-le n xs more (omega arith)
range_front [] more (suc a) n less = absurd (omega arith)
range_front (x ∷ xs) more (suc a) n less = range_front xs more a n (omega arith)

range_behind : (xs more : List Leap) → take (length more) (drop (length xs) (xs ++ more)) ≡ more
range_behind xs more = ap (take (length more)) (drop-append_seam xs more) ∙ take-length more

rows_front : (xs more : List Leap) (pieces : List Piece) → ArePieces (length xs) pieces → rows_of (xs ++ more) pieces ≡ rows_of xs pieces
rows_front xs more [] are = refl
rows_front xs more (p ∷ pieces) are =
    let inside = are 0 p refl in
    ap (λ (ys : List Leap). ys ∷ rows_of (xs ++ more) pieces) (range_front xs more p.from (p.to - p.from) (omega (arith, inside.0, inside.1)))
    ∙ ap (λ (yss : List (List Leap)). row_of xs p ∷ yss) (rows_front xs more pieces (λ k piece at. are (suc k) piece at))

-- the steps of one position more
module _ (leaps more : List Leap) (pieces : List Piece) (are : ArePieces (length leaps) pieces) (to : ℕ) (to_is : to ≡ length leaps + length more) where
  abbrev piece_of : Piece
  piece_of = record { from = length leaps; to = to }

  pub rows_more : rows_of (leaps ++ more) (pieces ++ piece_of ∷ []) ≡ rows_of leaps pieces ++ more ∷ []
  rows_more =
      let long : to - length leaps ≡ length more = omega (arith, to_is) in
      map-append (row_of (leaps ++ more)) pieces (piece_of ∷ [])
      ∙ ap (λ (yss : List (List Leap)). yss ++ row_of (leaps ++ more) piece_of ∷ []) (rows_front leaps more pieces are)
      ∙ ap (λ (ys : List Leap). rows_of leaps pieces ++ ys ∷ []) (ap (λ (n : ℕ). take n (drop (length leaps) (leaps ++ more))) long ∙ range_behind leaps more)

  pub pieces_more : ArePieces to (pieces ++ piece_of ∷ [])
  pieces_more k p at = ⊎_elim
      (λ (old : slice_get pieces k ≡ Some p). let was = are k p old in (was.0, omega (arith, was.1, to_is)))
      (λ last. subst (λ (x : Piece). (x.from ≤ x.to) × (x.to ≤ to)) last.1 (omega (arith, to_is), omega arith))
      (get_push_cases pieces piece_of k p at)

pub pieces_wider : (n m : ℕ) (pieces : List Piece) → n ≤ m → ArePieces n pieces → ArePieces m pieces
pieces_wider n m pieces less are k p at = let was = are k p at in (was.0, omega (arith, was.1))

pub row_at : (leaps : List Leap) (pieces : List Piece) (k : ℕ) (p : Piece) → slice_get pieces k ≡ Some p → slice_get (rows_of leaps pieces) k ≡ Some (row_of leaps p)
row_at leaps [] k p at = absurd (none-some p at)
row_at leaps (q ∷ pieces) zero p at = ap Some (ap (row_of leaps) (same_Some q p at))
row_at leaps (q ∷ pieces) (suc k) p at = row_at leaps pieces k p at
