-- The form of a refusal. Each crate's fault enum has a definition that gives every case its cause, and contracts speak of causes.
use Rattle.std.specs.Prelude.{List, ℕ}

-- A refusal's number, and the values that come back with it.
pub record Cause : Type 0 where
  pub number : ℕ
  pub values : List ℕ

abbrev pub cause : ℕ → List ℕ → Cause
cause n vs = record { number = n; values = vs }
