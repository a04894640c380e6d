-- Pieces laid out are their line.
use Rattle.std.proofs.Common.{◌≡◌, ℕ, zero, suc, ◌+◌, ◌-◌, ◌≤◌, Bool, true, false, cond, eqb, List, [], ◌∷◌, ◌++◌, length, take, drop, replicate, Some, None, Option, sym, refl, ap, ◌∙◌, subst, arith, take-append-drop, eqb-true}
use Rattle.std.specs.List.{prefix_len}
use Rattle.std.proofs.lemmas.List.{length-take-le}
use Rattle.std.proofs.lemmas.List.Sums.{prefix_len-le-length}
use Rattle.lexer.specs.declared.tokens.Class.TheVariants.{Space, Digit, Letter}
use Rattle.lexer.specs.declared.tokens.Sign.{Sign}
use Rattle.lexer.specs.declared.tokens.Sign.TheVariants.{Not, And, Or, Open, Close, Dot, Slash, Equals, Minus, Knows, Value}
use Rattle.lexer.specs.Bytes.{belongs, sign_of}
use Rattle.lexer.specs.Tokens.{number, word, bad, Placed, piece_at, numeral, mark, more, scan}
use Rattle.lexer.specs.Tiles.{byte_of, bytes_of, laid_out, Good, AllGood, TokensTile}
use Rattle.lexer.proofs.Picks.{chosen, none}
use Rattle.lexer.proofs.Scans.{pieces_at}

sign_byte : (b : ℕ) (s : Sign) → sign_of b ≡ Some s → byte_of s ≡ b
sign_byte b s =
    one 126 Not refl (one 38 And refl (one 124 Or refl (one 40 Open refl (one 41 Close refl (one 46 Dot refl
    (one 47 Slash refl (one 61 Equals refl (one 45 Minus refl (one 75 Knows refl (one 86 Value refl (none (byte_of s ≡ b) s)))))))))))
  where
    one : (n : ℕ) (t : Sign) {o : Option Sign} → byte_of t ≡ n → (o ≡ Some s → byte_of s ≡ b) → cond (eqb b n) (Some t) o ≡ Some s → byte_of s ≡ b
    one n t {o} is later = chosen (byte_of s ≡ b) (eqb b n) t o s (λ e same. ap byte_of (sym same) ∙ is ∙ sym (eqb-true b n e)) later

mark_bytes : (b : ℕ) (o : Option Sign) → sign_of b ≡ o → Good (mark o) → bytes_of (mark o) ≡ b ∷ []
mark_bytes b (Some s) e g = ap (λ n. n ∷ []) (sign_byte b s e)
mark_bytes b None e g = absurd g

numeral_bytes : (t : Bool) (ds : List ℕ) → Good (cond t (number ds) (bad 13)) → bytes_of (cond t (number ds) (bad 13)) ≡ ds
numeral_bytes true ds g = refl
numeral_bytes false ds g = absurd g

-- the bytes of the piece at a byte are that byte and those that belong to it
piece_bytes : (b : ℕ) (bs : List ℕ) → Good (piece_at b bs) → bytes_of (piece_at b bs) ≡ b ∷ take (more b bs) bs
piece_bytes b bs g = by_class (belongs Digit b) (belongs Letter b) g
  where
    by_class : (d l : Bool) → Good (cond d (numeral (b ∷ take (prefix_len (belongs Digit) bs) bs)) (cond l (word (b ∷ take (prefix_len (belongs Letter) bs) bs)) (mark (sign_of b))))
        → bytes_of (cond d (numeral (b ∷ take (prefix_len (belongs Digit) bs) bs)) (cond l (word (b ∷ take (prefix_len (belongs Letter) bs) bs)) (mark (sign_of b))))
        ≡ b ∷ take (cond d (prefix_len (belongs Digit) bs) (cond l (prefix_len (belongs Letter) bs) 0)) bs
    by_class true l h = numeral_bytes _ (b ∷ take (prefix_len (belongs Digit) bs) bs) h
    by_class false true h = refl
    by_class false false h = mark_bytes b (sign_of b) refl h

more_fits : (b : ℕ) (bs : List ℕ) → more b bs ≤ length bs
more_fits b bs = by_class (belongs Digit b) (belongs Letter b)
  where
    by_class : (d l : Bool) → cond d (prefix_len (belongs Digit) bs) (cond l (prefix_len (belongs Letter) bs) 0) ≤ length bs
    by_class true l = prefix_len-le-length (belongs Digit) bs
    by_class false true = prefix_len-le-length (belongs Letter) bs
    by_class false false = omega arith

space_more : (n b : ℕ) (bs : List ℕ) → b ≡ 32 → replicate (suc n) 32 ++ bs ≡ replicate n 32 ++ b ∷ bs
space_more zero b bs e = ap (λ x. x ∷ bs) (sym e)
space_more (suc n) b bs e = ap (λ l. 32 ∷ l) (space_more n b bs e)

-- what is laid out from the column c₀ on, where n spaces and then what is left of the line are due
tile : (skip c c₀ n : ℕ) (bs : List ℕ) → skip ≤ length bs → c₀ + n ≡ c + skip → AllGood (scan skip c bs) → laid_out c₀ (scan skip c bs) ≡ replicate n 32 ++ drop skip bs
tile zero c c₀ n [] h e g = ap (λ k. replicate k 32 ++ []) (let q : c - c₀ ≡ n = omega arith in q)
tile (suc k) c c₀ n [] h e g = absurd (omega arith)
tile (suc k) c c₀ n (b ∷ bs) h e g = tile k (c + 1) c₀ n bs (omega arith) (omega arith) g
tile zero c c₀ n (b ∷ bs) h e g =
    by_space (λ m. tile 0 (c + 1) c₀ m bs (omega arith))
    (λ c₁ q. tile (more b bs) (c + 1) c₁ 0 bs (more_fits b bs) q)
    (belongs Space b) refl g
  where
    by_space : ((m : ℕ) → c₀ + m ≡ c + 1 + 0 → AllGood (scan 0 (c + 1) bs) → laid_out c₀ (scan 0 (c + 1) bs) ≡ replicate m 32 ++ bs)
        → ((c₁ : ℕ) → c₁ + 0 ≡ c + 1 + more b bs → AllGood (scan (more b bs) (c + 1) bs) → laid_out c₁ (scan (more b bs) (c + 1) bs) ≡ drop (more b bs) bs)
        → (s : Bool) → belongs Space b ≡ s
        → AllGood (cond s (scan 0 (c + 1) bs) (record { piece = piece_at b bs; column = c } ∷ scan (more b bs) (c + 1) bs))
        → laid_out c₀ (cond s (scan 0 (c + 1) bs) (record { piece = piece_at b bs; column = c } ∷ scan (more b bs) (c + 1) bs)) ≡ replicate n 32 ++ b ∷ bs
    by_space on past true s good = on (suc n) (omega arith) good ∙ space_more n b bs (eqb-true b 32 s)
    by_space on past false s good =
        let own = piece_bytes b bs good.0 in
        let size : length (bytes_of (piece_at b bs)) ≡ suc (more b bs) = ap length own ∙ ap suc (length-take-le (more b bs) bs (more_fits b bs)) in
        let rest = past (c + length (bytes_of (piece_at b bs))) (omega arith) good.1 in
        let gap : c - c₀ ≡ n = omega arith in
        (λ i. replicate (gap i) 32 ++ (own i ++ rest i)) ∙ ap (λ l. replicate n 32 ++ b ∷ l) (take-append-drop (more b bs) bs)

pub tokens_tile : TokensTile
tokens_tile line good =
    let all = pieces_at line 0 (omega arith) in
    ap (laid_out 1) all ∙ tile 0 1 1 0 line (omega arith) refl (let P : List Placed → Type 0 = λ l. AllGood l in subst P all good)
