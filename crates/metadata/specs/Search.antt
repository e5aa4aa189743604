-- The search of the check step (document 02, Q-2).
use Rattle.std.specs.Prelude.{ℕ, Bool, ◌&&◌, List, [], ◌∷◌, length, eqb, ltb, leb, Some, None}
use Rattle.common.specs.Counting.{up_to}
use Rattle.model.specs.State.{completed}
use Rattle.model.specs.Snapshot.{instant_of}
use Rattle.metadata.specs.Largest.{largest}
use Rattle.metadata.specs.declared.timeline.Search.{Search}

-- a hit: a timestamp above the base whose instant is completed in file group g
abbrev pub is_hit : List ℕ → ℕ → ℕ → ℕ → Bool
is_hit timeline g base t = ltb base t && eqb (instant_of timeline t) (completed g)

-- a hit, and none, with the count of the timestamps looked at
abbrev pub found : ℕ → ℕ → Search
found t count = record { hit = Some t; looked_at = count }

abbrev pub none_found : ℕ → Search
none_found count = record { hit = None; looked_at = count }

-- what a search with these hits gives: the newest one, and the count of the timestamps from it up; with none, the count of those above the base
abbrev pub search_gives : ℕ → ℕ → List ℕ → Search
search_gives base last [] = none_found (length (up_to last (ltb base)))
search_gives base last (t ∷ ts) = found (largest (t ∷ ts)) (length (up_to last (leb (largest (t ∷ ts)))))

-- what the search of a timeline for file group g gives, above a base and up to a last timestamp
unfoldable pub newest_above : List ℕ → ℕ → ℕ → ℕ → Search
newest_above timeline g base last = search_gives base last (up_to last (is_hit timeline g base))
