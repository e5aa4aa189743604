-- Functions, tests and lists over the numbers 0, 1, ..
use Rattle.std.specs.Prelude.{ℕ, zero, suc, ◌+◌, Bool, true, cond, not, ◌&&◌, List, [], ◌∷◌, ◌++◌, eqb}

-- f, with x at i
unfoldable pub upd : {A : Type 0} → (ℕ → A) → ℕ → A → ℕ → A
upd f i x j = cond (eqb j i) x (f j)

-- every test of a list holds
abbrev pub every : List Bool → Bool
every [] = true
every (b ∷ bs) = b && every bs

-- the test holds of each number below n
unfoldable pub each_below : ℕ → (ℕ → Bool) → Bool
each_below zero p = true
each_below (suc n) p = each_below n p && p n

-- it holds of one of them
abbrev pub any_below : ℕ → (ℕ → Bool) → Bool
any_below n p = not (each_below n (λ i. not (p i)))

-- what f gives for 0, 1, .. below n, one after the other
unfoldable pub list_below : {A : Type 0} → ℕ → (ℕ → List A) → List A
list_below zero f = []
list_below (suc n) f = list_below n f ++ f n

-- the numbers up to n of which a test holds, rising
unfoldable pub up_to : ℕ → (ℕ → Bool) → List ℕ
up_to n p = list_below (suc n) (λ t. cond (p t) (t ∷ []) [])

-- the sum of f 0, f 1, .. below n
unfoldable pub sum : ℕ → (ℕ → ℕ) → ℕ
sum zero f = 0
sum (suc n) f = sum n f + f n
