-- The test decides the truth.
use Rattle.std.proofs.Common.{◌≡◌, ℕ, ◌<◌, true, Decides, refl}
use Rattle.std.proofs.lemmas.Bool.Decides.{Decides-eqb, Decides-not, Decides-and, Decides-like}
use Rattle.model.specs.Meaning.{Meaning, Lawful, Alike}
use Rattle.theory.specs.Formula.{Formula}
use Rattle.model.specs.Rows.{implies}
use Rattle.model.proofs.Deciding.{decides_it, decides_its_false, decides_implies, decides_every}
use Rattle.theory.specs.Truth.{Holds, truth, reaches, TruthDecided}

pub decides_reaches : (m : Meaning) (p w v : ℕ) → Decides (reaches m p w v) ((m.survives v ≡ true) × Alike m p w v)
decides_reaches m p w v = Decides-and _ _ (decides_it (m.survives v)) (decides_its_false (m.distinguishes p w v))

module _ (m : Meaning) (l : Lawful m) where
  pub decided : (φ : Formula) (w : ℕ) → Decides (truth m φ w) (Holds m φ w)
  decided Formula.top w = (λ _. tt, λ _. refl)
  decided (Formula.fact f) w = decides_it (m.fact f w)
  decided (Formula.equals q x) w = Decides-eqb (m.quantity q w) x
  decided (Formula.neg φ) w = Decides-not _ (decided φ w)
  decided (Formula.both φ ψ) w = Decides-and _ _ (decided φ w) (decided ψ w)
  decided (Formula.knows p φ) w =
      Decides-like _ (λ k v sv al. k v (l.within v sv) (sv, al)) (λ k v _ r. k v r.0 r.1)
      (decides_every (λ v. implies (reaches m p w v) (truth m φ v)) (λ v. (m.survives v ≡ true) × Alike m p w v → Holds m φ v)
      (λ v. decides_implies _ _ (decides_reaches m p w v) (decided φ v)) m.width)
  decided (Formula.value p q φ) w =
      Decides-like _ (λ k u v su au hu sv av hv. k u (l.within u su) ((su, au), hu) v (l.within v sv) ((sv, av), hv))
      (λ k u _ r v _ s. k u v r.0.0 r.0.1 r.1 s.0.0 s.0.1 s.1)
      (decides_every _ (λ u. ((m.survives u ≡ true) × Alike m p w u) × Holds m φ u → (v : ℕ) → v < m.width → ((m.survives v ≡ true) × Alike m p w v) × Holds m φ v → m.quantity q u ≡ m.quantity q v)
      (λ u. decides_implies _ _ (Decides-and _ _ (decides_reaches m p w u) (decided φ u))
      (decides_every _ (λ v. ((m.survives v ≡ true) × Alike m p w v) × Holds m φ v → m.quantity q u ≡ m.quantity q v)
      (λ v. decides_implies _ _ (Decides-and _ _ (decides_reaches m p w v) (decided φ v)) (Decides-eqb _ _)) m.width))
      m.width)

pub truth_decided : TruthDecided
truth_decided m l φ w = Decides-and _ _ (decides_it (m.survives w)) (decided m l φ w)
