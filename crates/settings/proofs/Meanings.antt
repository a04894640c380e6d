-- The meaning of a list of cases, by the numbers of its records.
use Rattle.std.proofs.Common.{◌≡◌, ℕ, false, eqb, List, [], ◌∷◌, map, length, get_or, sym, refl, ap, ◌∙◌, ap₂}
use mathlib.Core.Path.{fun_ext}
use Rattle.std.proofs.lemmas.List.{length-map}
use Rattle.settings.specs.declared.pairs.Pair.{Pair}
use Rattle.settings.specs.declared.dates.Date.{Date}
use Rattle.settings.specs.Settings.{Setting, set_up}
use Rattle.settings.specs.Cases.{listed}
use Rattle.settings.specs.Pairs.{pair_told, pair_amount, pairs_meaning}
use Rattle.settings.specs.Dates.{date_told, dates_meaning}
use Rattle.settings.specs.Readings.{numbers, date_numbers}

map_map : {R S : Type 0} (f : R → S) (g : S → ℕ) (xs : List R) → map (λ r. g (f r)) xs ≡ map g (map f xs)
map_map f g [] = refl
map_map f g (x ∷ xs) = ap (λ ys. g (f x) ∷ ys) (map_map f g xs)

-- records count only by what they tell: a list may be replaced by that of their readings
pub listed_map : {R S : Type 0} (f : R → S) (agents quantities : ℕ) (told amount : S → ℕ → ℕ) (xs : List R)
    → set_up (listed agents quantities (λ r. told (f r)) (λ r. amount (f r)) xs) ≡ set_up (listed agents quantities told amount (map f xs))
listed_map {R} {S} f agents quantities told amount xs =
    ap₂ (λ (t a : ℕ → List ℕ). set_up (of (length xs) t a)) (columns told) (columns amount)
    ∙ ap (λ (n : ℕ). set_up (of n (λ p. map (λ s. told s p) (map f xs)) (λ q. map (λ s. amount s q) (map f xs)))) (sym (length-map xs f))
  where
    of : ℕ → (ℕ → List ℕ) → (ℕ → List ℕ) → Setting
    of n t a = record {
      width = n;
      agents = agents;
      facts = 0;
      quantities = quantities;
      alike = λ p u v. eqb (get_or (t p) u 0) (get_or (t p) v 0);
      fact = λ _ _. false;
      quantity = λ q w. get_or (a q) w 0;
    }

    columns : (g : S → ℕ → ℕ) → ◌≡◌ {A = ℕ → List ℕ} (λ p. map (λ r. g (f r) p) xs) (λ p. map (λ s. g s p) (map f xs))
    columns g = fun_ext (λ p. map_map f (λ s. g s p) xs)

-- the model of a list of pairs is that of their numbers
pub pairs_mean : (xs : List Pair)
    → set_up (listed 2 4 (λ r p. pair_told (numbers r) p) (λ r q. pair_amount (numbers r) q) xs) ≡ pairs_meaning (map numbers xs)
pairs_mean xs = listed_map numbers 2 4 pair_told pair_amount xs

-- the model of a list of dates is that of their numbers
pub dates_mean : (xs : List Date)
    → set_up (listed 2 2 (λ r p. date_told (date_numbers r) p) (λ r q. date_told (date_numbers r) q) xs) ≡ dates_meaning (map date_numbers xs)
dates_mean xs = listed_map date_numbers 2 2 date_told date_told xs
