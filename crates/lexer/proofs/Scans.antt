-- Facts on the pieces of a line.
use Rattle.std.proofs.Common.{◌≡◌, ℕ, zero, suc, ◌+◌, ◌-◌, ◌*◌, ◌<◌, ◌≤◌, true, false, List, [], ◌∷◌, length, get_or, take, drop, fold, sym, refl, ap, ◌∙◌, ⊎_elim, add-zero, one-add, arith}
use native.Mathlib.Nat.{min-eq_left}
use Rattle.std.specs.List.{prefix_len}
use Rattle.std.proofs.lemmas.List.Sums.{fold_more}
use Rattle.std.proofs.lemmas.Bool.{cases_Bool}
use Rattle.lexer.specs.declared.tokens.Class.TheVariants.{Space}
use Rattle.lexer.specs.Bytes.{belongs, value_of}
use Rattle.lexer.specs.Tokens.{scan, pieces_from}

abbrev digits : ℕ → ℕ → ℕ
digits n b = n * 10 + (b - 48)

pub value_grows : (n : ℕ) (ds : List ℕ) → n ≤ fold digits n ds
value_grows n [] = omega arith
value_grows n (d ∷ ds) = omega (arith, value_grows (digits n d) ds)

pub value_more : (ds : List ℕ) (i : ℕ) → i < length ds → value_of (take (i + 1) ds) ≡ value_of (take i ds) * 10 + (get_or ds i 0 - 48)
value_more ds i h = fold_more digits 0 ds i 0 h

folded_split : (n i : ℕ) (ds : List ℕ) → fold digits n ds ≡ fold digits (fold digits n (take i ds)) (drop i ds)
folded_split n zero ds = refl
folded_split n (suc i) [] = refl
folded_split n (suc i) (d ∷ ds) = folded_split (digits n d) i ds

-- what the first digits write is no more than what all do
pub value_front : (i : ℕ) (ds : List ℕ) → value_of (take i ds) ≤ value_of ds
value_front i ds = omega (arith, folded_split 0 i ds, value_grows (value_of (take i ds)) (drop i ds))

-- bytes to skip are passed over
pub scan_skip : (k c : ℕ) (bs : List ℕ) → k ≤ length bs → scan k c bs ≡ scan 0 (c + k) (drop k bs)
scan_skip zero c bs h = ap (λ n. scan 0 n bs) (sym (add-zero c))
scan_skip (suc k) c [] h = absurd (omega arith)
scan_skip (suc k) c (b ∷ bs) h = scan_skip k (c + 1) bs (omega arith) ∙ ap (λ n. scan 0 n (drop k bs)) (let e : c + 1 + k ≡ c + suc k = omega arith in e)

-- so are spaces
pub scan_spaces : (c : ℕ) (bs : List ℕ) → scan 0 c bs ≡ scan 0 (c + prefix_len (belongs Space) bs) (drop (prefix_len (belongs Space) bs) bs)
scan_spaces c [] = ap (λ n. scan 0 n []) (sym (add-zero c))
scan_spaces c (b ∷ bs) = ⊎_elim (yes' (scan_spaces (c + 1) bs)) no' (cases_Bool (belongs Space b))
  where
    yes' : scan 0 (c + 1) bs ≡ scan 0 (c + 1 + prefix_len (belongs Space) bs) (drop (prefix_len (belongs Space) bs) bs) → belongs Space b ≡ true → scan 0 c (b ∷ bs) ≡ scan 0 (c + prefix_len (belongs Space) (b ∷ bs)) (drop (prefix_len (belongs Space) (b ∷ bs)) (b ∷ bs))
    yes' r e = simp (e, one-add) (r ∙ ap (λ n. scan 0 n (drop (prefix_len (belongs Space) bs) bs)) (let q : c + 1 + prefix_len (belongs Space) bs ≡ c + suc (prefix_len (belongs Space) bs) = omega arith in q))

    no' : belongs Space b ≡ false → scan 0 c (b ∷ bs) ≡ scan 0 (c + prefix_len (belongs Space) (b ∷ bs)) (drop (prefix_len (belongs Space) (b ∷ bs)) (b ∷ bs))
    no' e = simp (e, add-zero)

pub pieces_at : (line : List ℕ) (at : ℕ) → at ≤ length line → pieces_from line at ≡ scan 0 (at + 1) (drop at line)
unfolding pieces_from
pieces_at line at h = ap (λ n. scan 0 (n + 1) (drop at line)) (min-eq_left h)
