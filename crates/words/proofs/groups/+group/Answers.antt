-- `words::groups::group` meets its contract: each way through it is one of `groups`, and what the rest of the number
-- gives is small enough to go before. The measure is the number of bytes that may follow. Assumes nothing.
use Prim.Native.Nat.{◌≤◌}
use native.Mathlib.Omega.{arith}
use lib.ListN.{get_or}
use Rattle.words.proofs.Ways.{byte_there, groups_cut, groups_fifth, groups_last, groups_longer}
use Rattle.words.proofs.Numbers.{groups_room}
use Rattle.words.proofs.groups.+group.Goals as goal

pub returns-then-bytes-at : goal.returns-then-bytes-at
returns-then-bytes-at t c = rw c.at.ensures (groups_cut _ _ _ _ c.if-bytes-at.true)

pub returns-then-more-eq0 : goal.returns-then-more-eq0
returns-then-more-eq0 t c =
    groups_fifth _ _ _ _ (byte_there _ _ c.if-bytes-at.false) _ _ (omega (arith, c.type_inv.bytes c.args.at)) c.if-more-eq0.true c.fifth.ensures

pub returns-then-byte-lt128 : goal.returns-then-byte-lt128
returns-then-byte-lt128 t c =
    groups_last _ _ _ _ (byte_there _ _ c.if-bytes-at.false) _ _ c.if-more-eq0.false c.if-byte-lt128.true c.last.ensures

pub returns-in_default : goal.returns-in_default
returns-in_default t c =
    let small : get_or c.args.bytes.now c.args.at 0 ≤ 255 = omega (arith, c.type_inv.bytes c.args.at) in
    rw c.in_default.is
    (rw c.in_default.is at
    (groups_longer _ _ _ _ (byte_there _ _ c.if-bytes-at.false) _ _ small c.if-more-eq0.false c.if-byte-lt128.false c.group-rest.ensures))

pub overflow_mul-result : goal.overflow_mul-result
overflow_mul-result t c = omega (arith, groups_room _ _ _ _ _ _ c.requires c.if-more-eq0.false c.in-Ok.is c.group-rest.ensures)

pub overflow_add-result : goal.overflow_add-result
overflow_add-result t c = omega (arith, c.from.ensures, groups_room _ _ _ _ _ _ c.requires c.if-more-eq0.false c.in-Ok.is c.group-rest.ensures)

pub returns : goal.returns
returns t c =
    let small : get_or c.args.bytes.now c.args.at 0 ≤ 255 = omega (arith, c.type_inv.bytes c.args.at) in
    rw c.from.ensures
    (rw c.in-Ok.is at
    (groups_longer _ _ _ _ (byte_there _ _ c.if-bytes-at.false) _ _ small c.if-more-eq0.false c.if-byte-lt128.false c.group-rest.ensures))
