-- Sorted members rise strictly in the order of terms, so each stands there once.
-- Meaning alone would let a choice or an And keep its members unsorted or doubled; this does not.
use Prim.Native.Nat.{Ordering}
use Rattle.std.specs.Prelude.{◌≡◌, refl, List, [], ◌∷◌}
use Rattle.std.proofs.Common.{ap, ◌∙◌}
use Rattle.meaning.specs.Re.{Re}
use Rattle.meaning.specs.Order.{order, turned}
use Rattle.meaning.specs.OrderLaws.{order_turned}
use Rattle.meaning.specs.Normal.{placed, sorted, Before}
use Rattle.meaning.specs.JoinLaws.{Full}

-- each stands before the next
abbrev pub Rising : List Re → Type 0
Rising [] = Unit
Rising (x ∷ xs) = Before x xs × Rising xs

-- a member put in its place stands behind what was before it
placed_before : (z x : Re) (ys : List Re) → order z x ≡ Ordering.lt → Before z ys → Before z (placed x ys)
unfolding placed
placed_before z x [] h b = h
placed_before z x (y ∷ ys) h b = go (order x y) refl
  where
    go : (o : Ordering) → order x y ≡ o → Before z (placed x (y ∷ ys))
    go Ordering.lt e = rw (e, placed) h
    go Ordering.eq e = rw (e, placed) b
    go Ordering.gt e = rw (e, placed) b

pub placed_rising : (x : Re) (ys : List Re) → Rising ys → Rising (placed x ys)
unfolding placed
placed_rising x [] r = (tt, tt)
placed_rising x (y ∷ ys) r = go (order x y) refl (placed_rising x ys r.1)
  where
    go : (o : Ordering) → order x y ≡ o → Rising (placed x ys) → Rising (placed x (y ∷ ys))
    go Ordering.lt e ih = rw (e, placed) (e, r)
    go Ordering.eq e ih = rw (e, placed) r
    go Ordering.gt e ih = rw (e, placed) (placed_before y x ys (order_turned x y ∙ ap turned e) r.0, ih)

pub sorted_rising : (xs : List Re) → Rising (sorted xs)
unfolding sorted
sorted_rising [] = tt
sorted_rising (x ∷ xs) = placed_rising x (sorted xs) (sorted_rising xs)

-- and no member is lost to the last
placed_full : (x : Re) (ys : List Re) → Full (placed x ys)
unfolding placed
placed_full x [] = tt
placed_full x (y ∷ ys) = go (order x y) refl
  where
    go : (o : Ordering) → order x y ≡ o → Full (placed x (y ∷ ys))
    go Ordering.lt e = rw (e, placed) tt
    go Ordering.eq e = rw (e, placed) tt
    go Ordering.gt e = rw (e, placed) tt

pub sorted_full : (xs : List Re) → Full xs → Full (sorted xs)
unfolding sorted
sorted_full [] f = absurd f
sorted_full (x ∷ xs) f = placed_full x (sorted xs)
