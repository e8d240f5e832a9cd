-- What the tokens of the code, and a reader among them, stand for.
use Rattle.std.specs.Prelude.{ℕ, Bool, true, false, List, [], ◌∷◌, drop, option_map}
use Rattle.wc_f4.specs.declared.tokens.Token.{Token as CodeToken}
use Rattle.wc_f4.specs.declared.tokens.Token.TheVariants.{Word, Number, Quoted, Mark, Wrong, End}
use Rattle.wc_f4.specs.declared.pieces.Piece.{Piece as CodePiece}
use Rattle.wc_f4.specs.declared.readers.Placed.{Placed as CodePlaced}
use Rattle.wc_f4.specs.declared.readers.Reader.{Reader}
use Rattle.wc_f4.specs.declared.lookups.Lookup.{Lookup}
use Rattle.wc_f4.specs.Grammar.{Names}
use Rattle.wc_f4.specs.Reading.{names_of}
use Rattle.wc_f4.specs.Tokens.{Token, Piece, Placed, word, number, quoted, mark, wrong, text_end, tokens_from}

abbrev pub seen : CodeToken → Token
seen (Word w) = word w
seen (Number n) = number n
seen (Quoted s) = quoted s.now
seen (Mark m) = mark m
seen Wrong = wrong
seen End = text_end

abbrev pub piece_of : CodePiece → Piece
piece_of p = (option_map seen p.token, p.length)

abbrev pub is_end : CodeToken → Bool
is_end End = true
is_end _ = false

-- the tokens behind one
abbrev pub behind : CodeToken → ℕ → List ℕ → List Placed
behind End after text = []
behind _ after text = tokens_from after 0 (drop after text)

abbrev pub from_placed : List ℕ → CodePlaced → List Placed
from_placed text p = (seen p.token, p.place) ∷ behind p.token p.after text

-- the tokens that a reader hasn't read
unfoldable pub left : Reader → List Placed
left r = from_placed r.text.now r.next

-- the names that a look-up finds
abbrev pub known : Lookup → Names
known lookup = names_of lookup.image.now

-- what a reader and a look-up have before them: the names, and the tokens to come
abbrev pub ahead : Lookup → Reader → Names × List Placed
ahead lookup r = (known lookup, left r)

-- what a reader reads alone, under any names
abbrev pub Alone : (Names × List Placed → Names × List Placed → Type 0) → Reader → Reader → Type 0
Alone IsRead old new = (names : Names) → IsRead (names, left old) (names, left new)
