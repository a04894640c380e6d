-- The beginning of a line.
use Rattle.std.proofs.Common.{◌≡◌, ℕ, zero, suc, ◌+◌, ◌<◌, ◌≤◌, List, [], ◌∷◌, length, ap, arith}
use Rattle.std.proofs.lemmas.Bool.{cond_both, cond-true, cond-false, lt-leb, le-leb}
use Rattle.lexer.specs.declared.tokens.Class.TheVariants.{Space}
use Rattle.lexer.specs.Bytes.{belongs}
use Rattle.lexer.specs.Tokens.{piece_at, more, scan, pieces_from}
use Rattle.lexer.proofs.Scans.{pieces_at}
use Rattle.formulas.specs.Reading.{at}
use Rattle.lines.specs.Reading.{the_beginning}
use Rattle.lines.specs.Firsts.{first_word}

pub first_long : (line : List ℕ) → 200 < length line → first_word line ≡ at 11 0
unfolding first_word
first_long line h = cond-false _ _ _ (lt-leb (length line) 200 h)

pub first_short : (line : List ℕ) → length line ≤ 200 → first_word line ≡ the_beginning (pieces_from line 0)
unfolding first_word
first_short line h = cond-true _ _ _ (le-leb (length line) 200 h)

-- a piece takes a byte at least, and the end takes none
scan_few : (k c : ℕ) (bs : List ℕ) → length (scan k c bs) ≤ length bs + 1
scan_few k c [] = omega arith
scan_few zero c (b ∷ bs) =
    let spaced = scan_few 0 (c + 1) bs in
    let placed = scan_few (more b bs) (c + 1) bs in
    cond_both (belongs Space b) (scan 0 (c + 1) bs) (record { piece = piece_at b bs; column = c } ∷ scan (more b bs) (c + 1) bs) (λ l. length l ≤ suc (length bs) + 1) (λ _. omega arith) (λ _. omega arith)
scan_few (suc k) c (b ∷ bs) = let later = scan_few k (c + 1) bs in omega arith

pub pieces_few : (line : List ℕ) → length (pieces_from line 0) ≤ length line + 1
pieces_few line = omega (arith, ap length (pieces_at line 0 (omega arith)), scan_few 0 1 line)
