-- The theorems of this layer that are bought, together; each is proved in the file that its proof names.
-- To believe them, read only the definitions: Re, Lang, Means, Order, Normal (with Join, which src declares), Derive, Limited, Rules, Words, Shape; and the lists: Sample, Clauses, Forms, Lengths.
use Prim.Native.Nat.{Ordering}
use Rattle.std.specs.Prelude.{ℕ, ◌<◌, ◌≡◌, true, false, List, [], ◌∷◌, ◌++◌, map, ◌↔◌, ◌⊎◌}
use Rattle.meaning.specs.Re.{Re, Text, size, is_nothing}
use Rattle.meaning.specs.Re.Re.{Nothing, Empty, Range, Cat, Alt, Star, And, Not}
use Rattle.meaning.specs.declared.Join.{Join}
use Rattle.meaning.specs.declared.Join.TheVariants.{Or, Both}
use Rattle.meaning.specs.Means.{Matches}
use Rattle.meaning.specs.Order.{order, turned}
use Rattle.meaning.specs.OrderLaws.{order_self, order_equal, order_turned, order_trans}
use Rattle.meaning.specs.RowLaws.{nothing_empty, empty_range, range_cat, cat_alt, alt_star, star_and, and_not, ranges_below, cats_below, alts_below, stars_below, ands_below, nots_below}
use Rattle.meaning.specs.Normal.{joined, gathered, cat, alt, both, negated, normal}
use Rattle.meaning.proofs.NormalMeans.{normal_means}
use Rattle.meaning.specs.Shape.{is_not, Sorts, InShape, MemberOf}
use Rattle.meaning.proofs.ShapeLaws.{both_nothing_left, both_nothing_right, shape_normal, shape_deriv}
use Rattle.meaning.proofs.FormLaws.{shape_exact, cat_nothing_left, cat_nothing_right, cat_empty_left, cat_empty_right, cat_again, negated_own, negated_not, deriv_normal}
use Rattle.meaning.proofs.MemberLaws.{alt_is, formed_is, member_some_at, members_below}
use Rattle.meaning.specs.Forms.{answered, stated, forms, derivatives}
use Rattle.meaning.proofs.FormsHold.{forms_hold, derivatives_hold}
use Rattle.meaning.specs.Derive.{nullable, deriv, plain}
use Rattle.meaning.proofs.DeriveMeans.{deriv_means}
use Rattle.meaning.specs.PlainMeans.{nullable_means, decide, one_matches}
use Rattle.meaning.specs.Limited.{deriv_fit, normal_fit, deriv_results, normal_results, Over}
use Rattle.meaning.specs.Limited.Fit.{Long, Fits}
use Rattle.meaning.proofs.LimitedLaws.{deriv_long, deriv_short, normal_long, normal_short}
use Rattle.meaning.specs.Lengths.{counted, came, due, lengths}
use Rattle.meaning.proofs.LengthsHold.{nodes_counted, lengths_hold}
use Rattle.meaning.specs.Rules.{Names, label_after}
use Rattle.meaning.proofs.RulesMean.{names_after, names_one}
use Rattle.meaning.specs.Words.{Found, FirstWord, first_word}
use Rattle.meaning.proofs.WordsMean.{first_word_lem, one_first_word}
use Rattle.meaning.specs.Sample.{EachHolds, lines}
use Rattle.meaning.specs.Clauses.{clauses}
use Rattle.meaning.proofs.SampleHolds.{worked_lines, clauses_hold}

-- the textbook's clauses on texts, line by line: what each kind matches, also And and Not, the first rule that does, the first word
pub the_clauses : EachHolds clauses
the_clauses = clauses_hold

-- the derivative by c matches w exactly when the term matches c, then w
pub the_derivative : (c : ℕ) (r : Re) (w : Text) → Matches (deriv c r) w ↔ Matches r (c ∷ w)
the_derivative = deriv_means

-- it is the normal form of the textbook's derivative
pub the_textbook_derivative : (c : ℕ) (r : Re) → InShape r → deriv c r ≡ normal (plain c r)
the_textbook_derivative = deriv_normal

-- the sentences of documents 01 and 02 (K6) on the derivative, line by line, and the vectors that W's rules become
pub the_derivatives : map answered derivatives ≡ map stated derivatives
the_derivatives = derivatives_hold

-- normal form keeps meaning
pub the_normal_form : (r : Re) (w : Text) → Matches (normal r) w ↔ Matches r w
the_normal_form = normal_means

-- the sentences of documents 01 and 02 (K6) on normal form, line by line: Cat, Alt, Star, And, Not, Either, built upward, state 0's vector
pub the_forms : map answered forms ≡ map stated forms
the_forms = forms_hold

-- a term is in shape exactly where it is its own normal form; every normal form is, and every derivative of a term that is
pub record Shaped : Type 0 where
  pub exact : (r : Re) → InShape r ↔ (normal r ≡ r)
  pub of_forms : (r : Re) → InShape (normal r)
  pub of_derivatives : (c : ℕ) (r : Re) → InShape r → InShape (deriv c r)

pub the_shape : Shaped
the_shape = record { exact = shape_exact; of_forms = shape_normal; of_derivatives = shape_deriv }

-- Cat: Nothing on either side gives Nothing, Empty on a side the other side, and both ways to take three together give the same
pub record Joined : Type 0 where
  pub nothing_first : (r : Re) → cat Nothing r ≡ Nothing
  pub nothing_second : (r : Re) → cat r Nothing ≡ Nothing
  pub empty_first : (r : Re) → cat Empty r ≡ r
  pub empty_second : (r : Re) → cat r Empty ≡ r
  pub regrouped : (x y z : Re) → cat (cat x y) z ≡ cat x (cat y z)

pub the_sequence : Joined
the_sequence = record {
  nothing_first = cat_nothing_left;
  nothing_second = cat_nothing_right;
  empty_first = cat_empty_left;
  empty_second = cat_empty_right;
  regrouped = cat_again;
}

-- Alt of two terms in shape: the one term in shape whose members are those of both sides
pub the_choice : (a b r : Re) → InShape a → InShape b
    → (InShape r × ((x : Re) → MemberOf Or x r ↔ (MemberOf Or x a ⊎ MemberOf Or x b))) ↔ (r ≡ alt a b)
the_choice = alt_is

-- And of two terms in shape: Nothing on either side gives Nothing, else it is the one term in shape whose members are those of both sides
pub record Met : Type 0 where
  pub nothing_first : (r : Re) → both Nothing r ≡ Nothing
  pub nothing_second : (r : Re) → both r Nothing ≡ Nothing
  pub members : (a b : Re) → InShape a → InShape b → is_nothing a ≡ false → is_nothing b ≡ false → (r : Re)
      → (InShape r × ((x : Re) → MemberOf Both x r ↔ (MemberOf Both x a ⊎ MemberOf Both x b))) ↔ (r ≡ both a b)

pub the_meet : Met
the_meet = record { nothing_first = both_nothing_left; nothing_second = both_nothing_right; members = formed_is Both tt }

-- members of an And in normal form, and of an Alt, wherever they stand in it: none is Nothing, and each is below the next, so that none stands there twice
pub record Listed (members : List Re) : Type 0 where
  pub some : (front back : List Re) (x : Re) → members ≡ front ++ (x ∷ back) → is_nothing x ≡ false
  pub rising : (front back : List Re) (x y : Re) → members ≡ front ++ (x ∷ (y ∷ back)) → order x y ≡ Ordering.lt

pub record Sorted : Type 0 where
  pub of_and : (a b : Re) → InShape (And a b) → Listed (gathered Both (And a b))
  pub of_alt : (a b : Re) → InShape (Alt a b) → Listed (gathered Or (Alt a b))

pub the_members : Sorted
the_members = record { of_and = listed Both tt; of_alt = listed Or tt }
  where
    listed : (j : Join) → Sorts j → (a b : Re) → InShape (joined j a b) → Listed (gathered j (joined j a b))
    listed j o a b s = record { some = member_some_at j o a b s; rising = members_below j o a b s }

-- Not of a Not is its inner term, of anything else nothing is changed
pub record Turned : Type 0 where
  pub twice : (a : Re) → negated (Not a) ≡ a
  pub once : (a : Re) → is_not a ≡ false → negated a ≡ Not a

pub the_turn : Turned
the_turn = record { twice = negated_not; once = negated_own }

-- And matches the texts of both; and Not is the complement in all texts, so in all texts of bytes: each is matched by the term or by its Not, none by both
pub record Complement : Type 0 where
  pub of_both : (a b : Re) (w : Text) → Matches (And a b) w ↔ (Matches a w × Matches b w)
  pub one : (a : Re) (w : Text) → Matches a w ⊎ Matches (Not a) w
  pub not_two : (a : Re) (w : Text) → Matches a w → Matches (Not a) w → ⊥

pub the_complement : Complement
the_complement = record { of_both = λ a b w. (λ m. m, λ m. m); one = one_matches; not_two = λ a w m f. f m }

-- nullable is matching the empty text
pub the_empty_text : (r : Re) → (nullable r ≡ true) ↔ Matches r []
the_empty_text = nullable_means

-- whether a term matches a text is decidable
pub matching_is_decidable : (r : Re) (w : Text) → Dec (Matches r w)
matching_is_decidable = decide

-- the order of terms is total, and its "equal" is equality
pub record TotalOrder : Type 0 where
  pub equal : (x y : Re) → (order x y ≡ Ordering.eq) ↔ (x ≡ y)
  pub turns : (x y : Re) → order y x ≡ turned (order x y)
  pub passes_on : (x y z : Re) → order x y ≡ Ordering.lt → order y z ≡ Ordering.lt → order x z ≡ Ordering.lt

pub the_order : TotalOrder
the_order = record { equal = λ x y. (order_equal x y, λ e. rw e (order_self y)); turns = order_turned; passes_on = order_trans }

-- and it is that of documents 01 and 02 (K6): the kinds in their row, whatever the parts; within a kind the parts from left to right, lo before hi
pub record InTheRow : Type 0 where
  pub nothing_then_empty : order Nothing Empty ≡ Ordering.lt
  pub empty_then_range : (lo hi : ℕ) → order Empty (Range lo hi) ≡ Ordering.lt
  pub range_then_cat : (lo hi : ℕ) (a b : Re) → order (Range lo hi) (Cat a b) ≡ Ordering.lt
  pub cat_then_alt : (a b c d : Re) → order (Cat a b) (Alt c d) ≡ Ordering.lt
  pub alt_then_star : (a b c : Re) → order (Alt a b) (Star c) ≡ Ordering.lt
  pub star_then_and : (a b c : Re) → order (Star a) (And b c) ≡ Ordering.lt
  pub and_then_not : (a b c : Re) → order (And a b) (Not c) ≡ Ordering.lt
  pub ranges : (lo hi lo' hi' : ℕ) → (order (Range lo hi) (Range lo' hi') ≡ Ordering.lt) ↔ ((lo < lo') ⊎ ((lo ≡ lo') × (hi < hi')))
  pub cats : (a b c d : Re) → (order (Cat a b) (Cat c d) ≡ Ordering.lt) ↔ ((order a c ≡ Ordering.lt) ⊎ ((a ≡ c) × (order b d ≡ Ordering.lt)))
  pub alts : (a b c d : Re) → (order (Alt a b) (Alt c d) ≡ Ordering.lt) ↔ ((order a c ≡ Ordering.lt) ⊎ ((a ≡ c) × (order b d ≡ Ordering.lt)))
  pub stars : (a b : Re) → (order (Star a) (Star b) ≡ Ordering.lt) ↔ (order a b ≡ Ordering.lt)
  pub ands : (a b c d : Re) → (order (And a b) (And c d) ≡ Ordering.lt) ↔ ((order a c ≡ Ordering.lt) ⊎ ((a ≡ c) × (order b d ≡ Ordering.lt)))
  pub nots : (a b : Re) → (order (Not a) (Not b) ≡ Ordering.lt) ↔ (order a b ≡ Ordering.lt)

pub the_kinds : InTheRow
the_kinds = record {
  nothing_then_empty = nothing_empty;
  empty_then_range = empty_range;
  range_then_cat = range_cat;
  cat_then_alt = cat_alt;
  alt_then_star = alt_star;
  star_then_and = star_and;
  and_then_not = and_not;
  ranges = ranges_below;
  cats = cats_below;
  alts = alts_below;
  stars = stars_below;
  ands = ands_below;
  nots = nots_below;
}

-- a limited form answers the unlimited result, or Long exactly when a result on the way passes the limit
pub record LimitsMet : Type 0 where
  pub deriv_is : (c : ℕ) (r x : Re) → deriv_fit c r ≡ Fits x → x ≡ deriv c r
  pub deriv_is_long : (c : ℕ) (r : Re) → (deriv_fit c r ≡ Long) ↔ Over (deriv_results c r)
  pub normal_is : (r x : Re) → normal_fit r ≡ Fits x → x ≡ normal r
  pub normal_is_long : (r : Re) → (normal_fit r ≡ Long) ↔ Over (normal_results r)

pub the_limits : LimitsMet
the_limits = record { deriv_is = deriv_short; deriv_is_long = deriv_long; normal_is = normal_short; normal_is_long = normal_long }

-- tree nodes: one of each kind, a term of several kinds, and three at the limit
pub the_sizes : map size counted ≡ 1 ∷ 1 ∷ 1 ∷ 3 ∷ 3 ∷ 2 ∷ 3 ∷ 2 ∷ 6 ∷ 254 ∷ 255 ∷ 256 ∷ []
the_sizes = nodes_counted

-- results of 255 nodes and of 256, parts on the way that are too long, and a Db that is not worked out
pub the_lengths : map came lengths ≡ map due lengths
the_lengths = lengths_hold

-- the label after a text, by derivatives, names the text, and nothing else does
pub the_label : (rs : List Re) (w : Text) (l : ℕ) → Names rs w l ↔ (label_after rs w ≡ l)
the_label rs w l = (λ n. names_one rs w (label_after rs w) l (names_after rs w) n, λ e. rw (← e) (names_after rs w))

-- a text has exactly one first word, longest and then earliest, and the walk by derivatives finds it
pub the_first_word : (rs : List Re) (text : Text) (found : Found) → FirstWord rs text found ↔ (first_word rs text ≡ found)
the_first_word rs text found =
    (λ f. one_first_word rs text (first_word rs text) found (first_word_lem rs text) f, λ e. rw (← e) (first_word_lem rs text))

-- P1 to P12 of document 01
pub the_worked_lines : EachHolds lines
the_worked_lines = worked_lines
