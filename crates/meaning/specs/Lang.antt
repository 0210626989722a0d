-- Languages: a language says of each text what it is for the text to belong to it.
-- Two ways to join texts: one of P and then one of Q; and any number of texts of P, one after the other.
use Rattle.std.specs.Prelude.{ℕ, ◌≡◌, List, [], ◌∷◌, ◌++◌, ◌↔◌}
use Rattle.meaning.specs.Re.{Text}

abbrev pub Lang : Type 1
Lang = Text → Type 0

-- the same texts belong to both
abbrev pub Same : Lang → Lang → Type 0
Same P Q = (w : Text) → P w ↔ Q w

-- a text of P, then one of Q
pub record Then (P Q : Lang) (w : Text) : Type 0 where
  pub front : Text
  pub back : Text
  pub whole : w ≡ front ++ back
  pub fore : P front
  pub aft : Q back

-- texts one after the other
abbrev pub join : List Text → Text
join [] = []
join (x ∷ xs) = x ++ join xs

-- each of them belongs to P
abbrev pub Each : Lang → List Text → Type 0
Each P [] = Unit
Each P (x ∷ xs) = P x × Each P xs

-- zero or more texts of P, joined
pub record Many (P : Lang) (w : Text) : Type 0 where
  pub parts : List Text
  pub whole : w ≡ join parts
  pub each : Each P parts

-- what is left of the texts that begin with c
abbrev pub After : ℕ → Lang → Lang
After c P w = P (c ∷ w)
