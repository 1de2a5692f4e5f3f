-- The number of a release.
use Rattle.std.specs.Prelude.{ℕ, ◌+◌, ◌*◌}

-- `SCTP_ASSOC_VERSION` of the header
abbrev pub release : ℕ → ℕ → ℕ → ℕ
release major minor patch = 10000 * major + 100 * minor + patch
