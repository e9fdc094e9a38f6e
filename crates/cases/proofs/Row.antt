-- Proofs of cases in a row: a long list of them can go over several lines.
infixr 20 ◌&◌
-- a case, and those behind it
pub ◌&◌ : {A B : Type 0} → A → B → A × B
◌&◌ one behind = (one, behind)
