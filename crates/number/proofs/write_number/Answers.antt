-- `number::write_number` meets its contract: its stores are one run of bytes, which is what is written at that width.
-- Assumes nothing.
use Prim.Native.Nat.{ℕ, ◌+◌, ◌/◌, ◌%◌, ◌≤◌}
use native.Mathlib.Omega.{arith}
use mathlib.Core.Path.{◌≡◌, sym, ap, ◌∙◌}
use lib.ListN.{length, length-set}
use Rattle.number.specs.Limits.{group, two_groups}
use Rattle.number.specs.Numbers.{write_number}
use Rattle.number.specs.Lists.{written, stored_one, stored_two, stored_three}
use Rattle.number.proofs.NumberLaws.{way_write, width_is, width_some}
use Rattle.number.proofs.NumberLaws.Written.{one, two, three}
use Rattle.number.proofs.write_number.Goals as goal

pub bounds-out-at : goal.bounds-out-at
bounds-out-at c = omega (arith, width_is c.args.n (one c.if-n-lt-GROUP.true))

pub returns-then-n-lt-GROUP : goal.returns-then-n-lt-GROUP
returns-then-n-lt-GROUP c =
    let way = one c.if-n-lt-GROUP.true in
    let room : c.args.at + 1 ≤ length c.args.out.now = omega (arith, width_is c.args.n way) in
    record { value = ap (λ (k : ℕ). c.args.at + k) (sym (width_is c.args.n way)); out_after = stored_one c.args.out.now c.args.at c.args.n room ∙ ap (written c.args.out.now c.args.at) (way_write c.args.n way) }

pub bounds-out-at-2 : goal.bounds-out-at-2
bounds-out-at-2 c = omega (arith, width_some c.args.n)

pub bounds-out-at-then-n-lt-TWO_GROUPS : goal.bounds-out-at-then-n-lt-TWO_GROUPS
bounds-out-at-then-n-lt-TWO_GROUPS c =
    let wide-two : length (write_number c.args.n) ≡ 2 = width_is _ (two c.if-n-lt-GROUP.false c.if-n-lt-TWO_GROUPS.true) in
    simp length-set (omega (arith, wide-two))

pub returns-then-n-lt-TWO_GROUPS : goal.returns-then-n-lt-TWO_GROUPS
returns-then-n-lt-TWO_GROUPS c =
    let way = two c.if-n-lt-GROUP.false c.if-n-lt-TWO_GROUPS.true in
    let room : c.args.at + 2 ≤ length c.args.out.now = omega (arith, width_is c.args.n way) in
    record { value = ap (λ (k : ℕ). c.args.at + k) (sym (width_is c.args.n way)); out_after = stored_two c.args.out.now c.args.at (group + c.args.n % group) (c.args.n / group) room ∙ ap (written c.args.out.now c.args.at) (way_write c.args.n way) }

pub bounds-out-at-3 : goal.bounds-out-at-3
bounds-out-at-3 c =
    let wide-three : length (write_number c.args.n) ≡ 3 = width_is _ (three c.if-n-lt-TWO_GROUPS.false) in
    simp length-set (omega (arith, wide-three))

pub bounds-out-at-4 : goal.bounds-out-at-4
bounds-out-at-4 c =
    let wide-three : length (write_number c.args.n) ≡ 3 = width_is _ (three c.if-n-lt-TWO_GROUPS.false) in
    simp length-set (omega (arith, wide-three))

pub returns : goal.returns
returns c =
    let way = three c.if-n-lt-TWO_GROUPS.false in
    let room : c.args.at + 3 ≤ length c.args.out.now = omega (arith, width_is c.args.n way) in
    record {
      value = ap (λ (k : ℕ). c.args.at + k) (sym (width_is c.args.n way));
      out_after = stored_three c.args.out.now c.args.at (group + c.args.n % group) (group + c.args.n / group % group) (c.args.n / two_groups) room
          ∙ ap (written c.args.out.now c.args.at) (way_write c.args.n way);
    }
