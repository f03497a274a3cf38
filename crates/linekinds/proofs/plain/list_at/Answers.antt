-- `linekinds::plain::list_at` meets its contract: what is found after the letter, by the line's codes (`PlainLines`).
use native.Mathlib.Omega.{arith}
use Rattle.linekinds.specs.PlainText.{StandsAt}
use Rattle.linekinds.proofs.PlainLines.{exprs_found, rules_found, input_found, directions_found, names_found}
use Rattle.linekinds.proofs.plain.list_at.Goals as goal

pub overflow_add-p : goal.overflow_add-p
overflow_add-p c =
    let letter : StandsAt c.args.s.now c.args.at c.args.letter = c.stands.ensures.0 c.if-not-stands.false in
    omega (arith, (letter).0)

pub returns-in-Exprs : goal.returns-in-Exprs
returns-in-Exprs c = let e = c.entries_at.ensures in (e.0, rw c.in-Exprs.is (exprs_found _ _ _ c.if-letter-eq10.false (c.stands.ensures.0 c.if-not-stands.false) c.args.list.now _ _ e.1))

pub returns-in-Rules : goal.returns-in-Rules
returns-in-Rules c = let e = c.rules_at.ensures in (e.0, rw c.in-Rules.is (rules_found _ _ _ c.if-letter-eq10.false (c.stands.ensures.0 c.if-not-stands.false) c.args.list.now _ _ e.1))

pub returns-in-Input : goal.returns-in-Input
returns-in-Input c = let e = c.input_at.ensures in (e.0, rw c.in-Input.is (input_found _ _ _ c.if-letter-eq10.false (c.stands.ensures.0 c.if-not-stands.false) c.args.list.now _ _ (omega (arith, c.told-list)) e.1))

pub returns-in-Directions : goal.returns-in-Directions
returns-in-Directions c = let e = c.numbers_at.ensures in (e.0, rw c.in-Directions.is (directions_found _ _ _ c.if-letter-eq10.false (c.stands.ensures.0 c.if-not-stands.false) c.args.list.now _ _ e.1))

pub returns-in-Names : goal.returns-in-Names
returns-in-Names c = let e = c.numbers_at-in-Names.ensures in (e.0, rw c.in-Names.is (names_found _ _ _ c.if-letter-eq10.false (c.stands.ensures.0 c.if-not-stands.false) c.args.list.now _ _ e.1))
