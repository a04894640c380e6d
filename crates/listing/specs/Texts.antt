-- What is written of an outcome, of a header and of a whole listing.
use Rattle.std.specs.Prelude.{ℕ, List, [], ◌∷◌, ◌++◌, Some, None, codes, decimal, Option}
use Rattle.std.specs.List.{flat_map}
use Rattle.listing.specs.declared.outcomes.Header.{Header}
use Rattle.listing.specs.Outcomes.{Refused, Outcome, contradiction, unique, rivals, refusal, Entry}

-- numbers in decimal, each after a space
abbrev pub fields : List ℕ → List ℕ
fields ns = flat_map (λ n. 32 ∷ decimal n) ns

-- the number and the column of a refusal
abbrev pub placed : Refused → List ℕ
placed r = decimal r.number ++ (32 ∷ decimal r.column)

-- a word, and its numbers
abbrev pub said : Outcome → List ℕ
said contradiction = codes "none"
said (unique w q) = codes "unique" ++ fields (w ∷ q)
said (rivals n u v) = codes "rivals" ++ fields (n ∷ u ∷ v ∷ [])
said (refusal r) = codes "refused" ++ (32 ∷ placed r)

-- a word and a number, each after a space
abbrev pub field : List ℕ → ℕ → List ℕ
field word n = 32 ∷ (word ++ 32 ∷ decimal n)

-- how many worlds, agents, facts and quantities there are
abbrev pub headed : Header → List ℕ
headed h = codes "worlds " ++ (decimal h.worlds ++ (field (codes "agents") h.agents ++ (field (codes "facts") h.facts ++ field (codes "quantities") h.quantities)))

-- a line of the listing: its number, and what is said of it
abbrev pub numbered : Entry → List ℕ
numbered e = decimal e.number ++ (32 ∷ said e.outcome)

abbrev pub printed : List Entry → List ℕ
printed es = flat_map (λ e. numbered e ++ 10 ∷ []) es

-- the first line of the listing, where there is one
abbrev pub heading : Option Header → List ℕ
heading None = []
heading (Some h) = headed h ++ 10 ∷ []
