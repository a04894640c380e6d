-- Rows as they are filled.
use Rattle.std.proofs.Common.{◌≡◌, ℕ, zero, suc, ◌+◌, ◌*◌, ◌/◌, ◌%◌, ◌^◌, ◌<◌, ◌≤◌, Bool, true, false, cond, ◌&&◌, eqb, ltb, ◌⊎◌, List, ◌++◌, length, get_or, take, drop, set, replicate, Decides, sym, refl, ap, ◌∙◌, subst, ap₂, inl, inr, ⊎_elim, append_assoc, suc-mul, zero-mul, add-one, arith, lit<, length-append, length-set, drop-drop, take_at, drop_at}
use lib.Bits.{bit_or}
use lib.ListN.{length-replicate}
use Rattle.std.proofs.lemmas.Nat.{div-add-mod', le-div}
use Rattle.std.proofs.lemmas.Bool.{cases_Bool, cases_lt, cases_order, and_left, lt-ltb, le-ltb, eq-eqb, ne_eqb, cond-true, cond-false}
use Rattle.model.specs.Meaning.{Meaning, Lawful}
use Rattle.model.specs.Rows.{words, digit, bit, has_place, with_world}
use Rattle.model.proofs.Digits.{digit_zero, rows_are_sets}
use Rattle.theory.specs.declared.node.Node.{Node}
use Rattle.theory.specs.Formula.{shape, formula}
use Rattle.theory.specs.Truth.{Holds, truth, holds}
use Rattle.theory.proofs.Growth.{formula_built}
use Rattle.theory.proofs.Truths.{truth_decided}
use Rattle.evaluator.specs.Checks.{no_node, Fillable}
use Rattle.evaluator.specs.Rows.{row_at, with_row, row_bit, row_of, node_row, rows_of, says, Ready}
use Rattle.evaluator.specs.Marks.{MarksTheTruth}
use Rattle.evaluator.proofs.Areas.{row_fits, row_there, row_again, row_before}
use Rattle.evaluator.proofs.Nodes.{sound_earlier, says_same, says_true}

-- a row of so many words has a place for each world
word_below : (v n : ℕ) → v < n → v / 64 < words n
word_below v n h =
    let split : v / 64 * 64 + v % 64 ≡ v = div-add-mod' v 64 in
    let l : v / 64 + 1 ≤ (n + 63) / 64 = le-div (v / 64 + 1) (n + 63) 64 (lit< tt) (omega arith) in
    omega arith

length_with : (row : List ℕ) (w : ℕ) → length (with_world row w) ≡ length row
length_with row w = go (has_place row w)
  where
    go : (b : Bool) → length (cond b (set row (w / 64) (bit_or (get_or row (w / 64) 0) (2 ^ (w % 64)))) row) ≡ length row
    go true = length-set row (w / 64) _
    go false = refl

zeros : (r k : ℕ) → ◌≡◌ {A = ℕ} (get_or (replicate r 0) k 0) 0
zeros zero k = refl
zeros (suc r) zero = refl
zeros (suc r) (suc k) = zeros r k

module _ (p : ℕ → Bool) (r : ℕ) where
  pub length_row : (n : ℕ) → length (row_of p r n) ≡ r
  unfolding row_of
  length_row zero = length-replicate r 0
  length_row (suc n) = go (p n) (length_row n)
    where
      go : (b : Bool) → length (row_of p r n) ≡ r → length (cond b (with_world (row_of p r n) n) (row_of p r n)) ≡ r
      go true e = length_with (row_of p r n) n ∙ e
      go false e = e

  pub row_none : row_of p r 0 ≡ replicate r 0
  unfolding row_of
  row_none = refl

  -- one world more
  pub row_yes : (n : ℕ) → p n ≡ true → with_world (row_of p r n) n ≡ row_of p r (n + 1)
  unfolding row_of
  row_yes n e = sym (ap (row_of p r) (add-one n) ∙ cond-true (p n) _ _ e)

  pub row_no : (n : ℕ) → p n ≡ false → row_of p r n ≡ row_of p r (n + 1)
  unfolding row_of
  row_no n e = sym (ap (row_of p r) (add-one n) ∙ cond-false (p n) _ _ e)

  -- the row has exactly the worlds below n that pass
  more : (n : ℕ) → n / 64 < r → (v : ℕ) → bit (row_of p r n) v ≡ (ltb v n && p v)
      → (b : Bool) → p n ≡ b → (v ≡ n) ⊎ ((v < n) ⊎ (n < v)) → bit (cond b (with_world (row_of p r n) n) (row_of p r n)) v ≡ (ltb v (suc n) && p v)
  more n h v ih = go
    where
      apart : (v < n) ⊎ (n < v) → v ≡ n → ⊥
      apart (inl l) e = omega arith
      apart (inr l) e = omega arith

      other : (v < n) ⊎ (n < v) → (ltb v n && p v) ≡ (ltb v (suc n) && p v)
      other (inl l) = ap (λ (b : Bool). b && p v) (lt-ltb v n l ∙ sym (lt-ltb v (suc n) (omega arith)))
      other (inr l) = ap (λ (b : Bool). b && p v) (le-ltb v n (omega arith) ∙ sym (le-ltb v (suc n) (omega arith)))

      here : v ≡ n → (ltb v (suc n) && p v) ≡ p n
      here e = ap₂ (λ (b d : Bool). b && d) (lt-ltb v (suc n) (omega arith)) (ap p e)

      place : has_place (row_of p r n) n ≡ true
      place = lt-ltb (n / 64) (length (row_of p r n)) (omega (arith, h, length_row n))

      go : (b : Bool) → p n ≡ b → (v ≡ n) ⊎ ((v < n) ⊎ (n < v)) → bit (cond b (with_world (row_of p r n) n) (row_of p r n)) v ≡ (ltb v (suc n) && p v)
      go true t (inl e) = (rows_are_sets (row_of p r n) n v).0 ∙ cond-true (eqb v n) _ _ (eq-eqb v n e) ∙ place ∙ sym (here e ∙ t)
      go true t (inr e) = (rows_are_sets (row_of p r n) n v).0 ∙ cond-false (eqb v n) _ _ (ne_eqb v n (apart e)) ∙ ih ∙ other e
      go false t (inl e) = ih ∙ and_left (ltb v n) (p v) (le-ltb v n (omega arith)) ∙ sym (here e ∙ t)
      go false t (inr e) = ih ∙ other e

  pub bit_row : (n : ℕ) → ((w : ℕ) → w < n → w / 64 < r) → (v : ℕ) → bit (row_of p r n) v ≡ (ltb v n && p v)
  unfolding row_of
  bit_row zero h v = ap (λ (x : ℕ). digit x (v % 64)) (zeros r (v / 64)) ∙ digit_zero (v % 64) ∙ sym (and_left (ltb v 0) (p v) (le-ltb v 0 (omega arith)))
  bit_row (suc n) h v = more n (h n (omega arith)) v (bit_row n (λ w l. h w (omega arith)) v) (p n) refl (cases_order v n)

module _ (m : Meaning) (l : Lawful m) (ns : List Node) where
  -- the row of a node has exactly the surviving worlds where its formula is true
  pub bit_node : (i v : ℕ) → bit (node_row m ns i) v ≡ holds m (formula ns i) v
  bit_node i v =
      bit_row (holds m (formula ns i)) (words m.width) m.width (λ w. word_below w m.width) v
      ∙ ⊎_elim (λ s. ap (λ (b : Bool). b && holds m (formula ns i) v) (lt-ltb v m.width (l.within v s)))
      (λ s. go (ltb v m.width) (holds m (formula ns i) v) (and_left (m.survives v) (truth m (formula ns i) v) s)) (cases_Bool (m.survives v))
    where
      go : (x y : Bool) → y ≡ false → (x && y) ≡ y
      go true y e = refl
      go false y e = sym e

  -- what a node says of the rows before it is whether it is true
  pub ready_says : (i r w : ℕ) (work : List ℕ) → Ready m ns i r work → m.survives w ≡ true
      → says m (row_bit work r) (shape (get_or ns i no_node)) w ≡ holds m (formula ns i) w
  ready_says i r w work h s =
      let n = get_or ns i no_node in
      let early = sound_earlier m i n h.sound_node in
      says_same m (row_bit work r) (λ j. holds m (formula ns j)) i (shape n) w early (λ j k. ap bit (h.written j k) ∙ (λ x v. bit_node j v x))
      ∙ says_true m (formula ns) (shape n) w s
      ∙ ap (λ f. truth m f w) (sym (formula_built ns no_node i h.within early))
      ∙ sym (ap (λ (b : Bool). b && truth m (formula ns i) w) s)

module _ (m : Meaning) (ns : List Node) (i r : ℕ) where
  -- a node stays ready while its row is written
  pub ready_kept : (xs ys row : List ℕ) → Ready m ns i r xs → length row ≡ r → ys ≡ with_row xs r i row → length ys ≡ length xs → Ready m ns i r ys
  ready_kept xs ys row h full e size = record {
    within = h.within;
    sound_node = h.sound_node;
    per_row = h.per_row;
    room = omega (arith, h.room);
    written = λ j k. ap (λ (zs : List ℕ). row_at zs r j) e ∙ row_before xs r i h.room row full j k ∙ h.written j k;
  }

  -- a row that is written twice
  pub rewritten : (xs ys row other zs : List ℕ) → i * r + r ≤ length xs → length row ≡ r → ys ≡ with_row xs r i row → zs ≡ with_row ys r i other → zs ≡ with_row xs r i other
  rewritten xs ys row other zs fits full e f = f ∙ ap (λ (a : List ℕ). with_row a r i other) e ∙ row_again xs r i fits row full other

  -- the row as it is in the work area, with one world more
  pub added : (xs ys row zs : List ℕ) (w : ℕ) → i * r + r ≤ length xs → length row ≡ r → ys ≡ with_row xs r i row → zs ≡ with_row ys r i (with_world (row_at ys r i) w)
      → zs ≡ with_row xs r i (with_world row w)
  added xs ys row zs w fits full e f =
      rewritten xs ys row (with_world (row_at ys r i) w) zs fits full e f
      ∙ ap (λ (a : List ℕ). with_row xs r i (with_world a w)) (ap (λ (a : List ℕ). row_at a r i) e ∙ row_there xs r i fits row full)

module _ (m : Meaning) (ns : List Node) where
  length_rows : (n : ℕ) → length (rows_of m ns n) ≡ n * words m.width
  unfolding rows_of
  length_rows zero = sym (zero-mul (words m.width))
  length_rows (suc n) =
      length-append (rows_of m ns n) (node_row m ns n)
      ∙ ap₂ ◌+◌ (length_rows n) (length_row (holds m (formula ns n)) (words m.width) m.width) ∙ sym (suc-mul n (words m.width))

  -- the rows before node n stand where they are looked for
  pub rows_written : (n : ℕ) (rest : List ℕ) (j : ℕ) → j < n → row_at (rows_of m ns n ++ rest) (words m.width) j ≡ node_row m ns j
  unfolding rows_of row_at
  rows_written zero rest j l = absurd (omega arith)
  rows_written (suc n) rest j l =
      let r = words m.width in
      let row = node_row m ns n in
      ap (λ (xs : List ℕ). row_at xs r j) (append_assoc (rows_of m ns n) row rest)
      ∙ ⊎_elim (λ b. rows_written n (row ++ rest) j b)
      (λ b. let same : j ≡ n = omega arith in
      ap (λ (x : ℕ). take r (drop (x * r) (rows_of m ns n ++ (row ++ rest)))) same
      ∙ ap (take r) (drop_at (rows_of m ns n) (row ++ rest) (n * r) (length_rows n))
      ∙ take_at row rest r (length_row (holds m (formula ns n)) r m.width) ∙ ap (node_row m ns) (sym same))
      (cases_lt j n)

  pub rows_none : (r : ℕ) (xs : List ℕ) → xs ≡ rows_of m ns 0 ++ drop (0 * r) xs
  unfolding rows_of
  rows_none r xs = ap (λ (x : ℕ). drop x xs) (sym (zero-mul r))

  module _ (i r : ℕ) (xs ys : List ℕ) (per_row : r ≡ words m.width) (so_far : ys ≡ rows_of m ns i ++ drop (i * r) xs) where
    -- one row more
    pub rows_more : (zs : List ℕ) → zs ≡ with_row ys r i (node_row m ns i) → zs ≡ rows_of m ns (i + 1) ++ drop ((i + 1) * r) xs
    unfolding rows_of with_row
    rows_more zs f =
        let n : length (rows_of m ns i) ≡ i * r = length_rows i ∙ ap (λ (x : ℕ). i * x) (sym per_row) in
        let next : (i + 1) * r ≡ i * r + r = ap (λ (x : ℕ). x * r) (add-one i) ∙ suc-mul i r in
        let rest : drop (i * r + r) ys ≡ drop ((i + 1) * r) xs =
        sym (drop-drop r (i * r) ys) ∙ ap (drop r) (ap (drop (i * r)) so_far ∙ drop_at (rows_of m ns i) (drop (i * r) xs) (i * r) n)
        ∙ drop-drop r (i * r) xs ∙ ap (λ (x : ℕ). drop x xs) (sym next) in
        f
        ∙ ap₂ (λ (a b : List ℕ). a ++ (node_row m ns i ++ b)) (ap (take (i * r)) so_far ∙ take_at (rows_of m ns i) (drop (i * r) xs) (i * r) n) rest
        ∙ sym (append_assoc (rows_of m ns i) (node_row m ns i) (drop ((i + 1) * r) xs))
        ∙ ap (λ (x : ℕ). rows_of m ns x ++ drop ((i + 1) * r) xs) (sym (add-one i))

    -- the next node is ready
    pub ready : (n : ℕ) → Fillable m ns n (length xs) → i < n → length ys ≡ length xs → Ready m ns i r ys
    ready n h l size = record {
      within = omega (arith, h.within);
      sound_node = h.sound_nodes i l;
      per_row = per_row;
      room = omega (arith, row_fits i n r (length xs) l (subst (λ (x : ℕ). n * x ≤ length xs) (sym per_row) h.enough));
      written = λ j b. ap₂ (λ (zs : List ℕ) (x : ℕ). row_at zs x j) so_far per_row ∙ rows_written i (drop (i * r) xs) j b;
    }

module _ (m : Meaning) (l : Lawful m) (ns : List Node) (n r : ℕ) (xs ys : List ℕ) (per_row : r ≡ words m.width) (all : ys ≡ rows_of m ns n ++ drop (n * r) xs) where
  -- each row that is written has exactly the surviving worlds where its formula is true
  pub each_row : (i : ℕ) → i < n → row_bit ys r i ≡ holds m (formula ns i)
  each_row i h =
      ap bit (ap₂ (λ (zs : List ℕ) (x : ℕ). row_at zs x i) all per_row ∙ rows_written m ns n (drop (n * r) xs) i h)
      ∙ (λ x v. bit_node m l ns i v x)

  pub each_tells : (i : ℕ) → i < n → MarksTheTruth m ns i ys
  each_tells i h w =
      subst (λ (b : Bool). Decides b ((m.survives w ≡ true) × Holds m (formula ns i) w))
      (sym (ap (λ (x : ℕ). row_bit ys x i w) (sym per_row) ∙ ap (λ (t : ℕ → Bool). t w) (each_row i h)))
      (truth_decided m l (formula ns i) w)
