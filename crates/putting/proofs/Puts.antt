-- Facts put one after another, and a layer that keeps none.
use Rattle.std.proofs.Common.{◌≡◌, ℕ, ◌<◌, Bool, true, false, cond, ◌&&◌, eqb, ltb, List, length, get_or, set, replicate, Some, None, Option, refl, ◌∙◌, inl, inr, ⊎_elim, arith}
use lib.ListN.{get_or-replicate, length-replicate}
use Rattle.std.proofs.lemmas.List.{get_or-set_same, get_or-set_other, get_or_past}
use Rattle.std.proofs.lemmas.Bool.{cases_eq, cases_lt, eq-eqb, ne_eqb, lt-ltb}
use Rattle.model.specs.Meaning.{Meaning, Lawful, put, replaced}
use Rattle.model.specs.Rows.{bit}
use Rattle.model.proofs.Steps.{same_answers, gone_bits_idle, lawful_replaced}
use Rattle.putting.specs.Layer.{put_facts, put_rows}
use Rattle.putting.specs.PutFacts.{put_facts_there}

-- what is repeated stands everywhere, and past the end too
repeated : {A : Type 0} (x : A) (n f : ℕ) → get_or (replicate n x) f x ≡ x
repeated x n f = ⊎_elim (λ h. get_or-replicate n f x x h) (λ h. get_or_past (replicate n x) f x (simp length-replicate h)) (cases_lt f n)

module _ (m : Meaning) where
  -- where no row is kept, nothing is put
  pub none_put : (n : ℕ) → replaced (put_facts m (replicate n None)) (put_rows (replicate n None)) m ≡ m
  none_put n = same_answers m (λ w. refl) (λ p u v. refl) facts (λ q w. refl)
    where
      no : (b c : Bool) (x : Bool) → cond (b && false) c x ≡ x
      no true c x = refl
      no false c x = refl

      facts : (f w : ℕ) → cond (put_facts m (replicate n None) f) (m.survives w && put_rows (replicate n None) f w) (m.fact f w) ≡ m.fact f w
      facts f w = rw (repeated {A = Option (List ℕ)} None n f) (no (ltb f m.facts) (m.survives w && false) (m.fact f w))

  module _ (law : Lawful m) (rows : List (Option (List ℕ))) (f : ℕ) (new : List ℕ) (there : f < m.facts) (place : f < length rows) where
    -- one more row kept is one more fact put
    kept : replaced (put_facts m (set rows f (Some new))) (put_rows (set rows f (Some new))) m ≡ put f (bit new) (replaced (put_facts m rows) (put_rows rows) m)
    kept = same_answers m (λ w. refl) (λ p u v. refl) facts (λ q w. refl)
      where
        facts : (g w : ℕ) → cond (put_facts m (set rows f (Some new)) g) (m.survives w && put_rows (set rows f (Some new)) g w) (m.fact g w)
            ≡ cond (eqb g f) (m.survives w && bit new w) (cond (put_facts m rows g) (m.survives w && put_rows rows g w) (m.fact g w))
        facts g w = elim (cases_eq g f) [
          | inl e ↦ rw (e, eq-eqb f f refl, lt-ltb f m.facts there, get_or-set_same rows f (Some new) None place) refl
          | inr n ↦ rw (ne_eqb g f n, get_or-set_other rows f g (Some new) None n) refl
        ]

    -- only the bits of the survivors count
    pub put_kept : (row : ℕ → Bool) → ((w : ℕ) → m.survives w ≡ true → bit new w ≡ row w)
        → replaced (put_facts m (set rows f (Some new))) (put_rows (set rows f (Some new))) m ≡ put f row (replaced (put_facts m rows) (put_rows rows) m)
    put_kept row same =
        let before = replaced (put_facts m rows) (put_rows rows) m in
        kept ∙ (gone_bits_idle before (lawful_replaced m (put_facts m rows) (put_rows rows) (put_facts_there m rows) law) (bit new) row same).2 f

    -- and there are no survivors but of 4,096 worlds
    pub put_row_kept : (row : ℕ → Bool) → ((w : ℕ) → w < 4096 → bit new w ≡ row w)
        → replaced (put_facts m (set rows f (Some new))) (put_rows (set rows f (Some new))) m ≡ put f row (replaced (put_facts m rows) (put_rows rows) m)
    put_row_kept row same = put_kept row (λ w e. same w (omega (arith, law.within w e, law.few_worlds)))
