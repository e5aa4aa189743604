-- The file slices that are given, a timestamp for each file group.
use Rattle.std.specs.Prelude.{ℕ, cond, List, get_or, leb}
use Rattle.model.specs.Limits.{timestamps}

-- the timestamp that is given, or 0, which has no slice, for one above the last
abbrev pub timestamp_or0 : ℕ → ℕ
timestamp_or0 n = cond (leb n timestamps) n 0

-- the timestamp of file group g's slice
abbrev pub slice_in : List ℕ → ℕ → ℕ
slice_in slices g = timestamp_or0 (get_or slices g 0)
