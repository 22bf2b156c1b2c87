use Rattle.std.proofs.Common.{arith, inl, inr}
use Rattle.cal_script.proofs.HeadLemmas.{no_coming_without_blank, no_coming_without_second, no_coming_by_connection, no_coming_by_moment, no_coming_by_size, no_coming_by_bounds, coming_of}
use Rattle.cal_script.proofs.head.read_coming.Goals as goal

pub returns-in_default : goal.returns-in_default
returns-in_default c = no_coming_without_blank c.args.numbers.now c.in_default.ensures

pub returns-in_default-split_at_octet : goal.returns-in_default-split_at_octet
returns-in_default-split_at_octet c = no_coming_without_second _ _ _ c.in-Some.ensures c.in_default-split_at_octet.ensures

pub returns-in_default-read_number : goal.returns-in_default-read_number
returns-in_default-read_number c =
    no_coming_by_connection _ _ _ _ _ (record { first = c.in-Some.ensures; second = c.in-Some-split_at_octet.ensures }) c.in_default-read_number.ensures

pub returns-in_default-read_number-2 : goal.returns-in_default-read_number-2
returns-in_default-read_number-2 c =
    no_coming_by_moment _ _ _ _ _ (record { first = c.in-Some.ensures; second = c.in-Some-split_at_octet.ensures }) c.in_default-read_number-2.ensures

pub returns-in_default-read_number-3 : goal.returns-in_default-read_number-3
returns-in_default-read_number-3 c =
    no_coming_by_size _ _ _ _ _ (record { first = c.in-Some.ensures; second = c.in-Some-split_at_octet.ensures }) c.in_default-read_number-3.ensures

pub returns-then-connection-gt-LAST_CONNECTION : goal.returns-then-connection-gt-LAST_CONNECTION
returns-then-connection-gt-LAST_CONNECTION c =
    no_coming_by_bounds _ _ _ _ _ c.in-Some-read_number.connection c.in-Some-read_number-2.moment c.in-Some-read_number-3.size
    (record { first = c.in-Some.ensures; second = c.in-Some-split_at_octet.ensures })
    c.in-Some-read_number.ensures c.in-Some-read_number-2.ensures c.in-Some-read_number-3.ensures (omega arith) (omega arith) (omega arith)
    (elim c.then-connection-gt-LAST_CONNECTION.either [ inl h ↦ inl h | inr h ↦ inr (elim h [ inl t ↦ inl t.1 | inr n ↦ inr n.2 ]) ])

pub returns : goal.returns
returns c =
    coming_of _ _ _ _ _ _ (record { first = c.in-Some.ensures; second = c.in-Some-split_at_octet.ensures })
    c.in-Some-read_number.ensures c.in-Some-read_number-2.ensures c.in-Some-read_number-3.ensures
    (record { connection_to = omega arith; moment_to = omega arith; size_to = omega arith })
