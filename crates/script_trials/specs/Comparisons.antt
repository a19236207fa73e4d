-- Two results that are equal.
use Rattle.std.specs.Prelude.{◌≡◌}
use Rattle.reference.specs.declared.results.Results.{Results}

-- the same intervals, grades and findings
pub record AreEqual (a b : Results) : Type 0 where
  pub values : a.values.items ≡ b.values.items
  pub findings : a.findings.items ≡ b.findings.items
