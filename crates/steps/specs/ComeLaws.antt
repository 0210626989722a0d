-- The four ways that coming to a pair can go, by the tests that the code makes in walk's order.
-- The last needs an item to be new, allowed, and to fit the pool.
use Rattle.std.specs.Prelude.{ℕ, ◌<◌, ◌≤◌, ◌≡◌, length}
use borrow.Author.Tests.{lt-ltb, le-ltb, le-leb, lt-leb}
use Rattle.number.specs.declared.Refusal.TheVariants.{Pool}
use Rattle.walk.specs.Walk.{Item, Held, number_in, Way, added, come}
use Rattle.walk.specs.Walk.Step.{stopped, reached}
use Rattle.walk.specs.StepLaws.{count}

module _ (way : Way) (i : ℕ) (h : Held) (x : Item) (k : ℕ) (is : k ≡ number_in h.items x) where
  pub come_held : k < count h → come way i h x ≡ reached h k
  unfolding come
  come_held l = rw (← is, lt-ltb k (count h) l)

  pub come_full : count h ≤ k → way.limit ≤ count h → come way i h x ≡ stopped (way.full i)
  unfolding come
  come_full l m = rw (← is, le-ltb k (count h) l, le-leb way.limit (count h) m)

  pub come_pool : count h ≤ k → count h < way.limit → way.terms < length (added h x).pool → come way i h x ≡ stopped (Pool i)
  unfolding come
  come_pool l m o = rw (← is, le-ltb k (count h) l, lt-leb way.limit (count h) m, lt-ltb way.terms (length (added h x).pool) o)

  pub come_new : count h ≤ k → count h < way.limit → length (added h x).pool ≤ way.terms → come way i h x ≡ reached (added h x) (count h)
  unfolding come
  come_new l m o = rw (← is, le-ltb k (count h) l, lt-leb way.limit (count h) m, le-ltb way.terms (length (added h x).pool) o)
