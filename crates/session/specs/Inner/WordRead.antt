-- What an arrival and asking read of a session: n, Q, and the places, of which the first n are the received word.
use Rattle.std.specs.Prelude.{cond, ◌++◌, ◌*◌, drop}
use Rattle.field.specs.Curve.{is_short}
use Rattle.session.specs.declared.ReceivedWord.{ReceivedWord}
use Rattle.session.specs.declared.Session.{Session}
use Rattle.session.specs.Arrived.{received_word}

-- where q names no curve of short blocks, nothing is read: 1 refuses the call
abbrev pub word_read : Session → ReceivedWord
word_read s =
    let n = s.q * s.q * s.q in
    cond (is_short s.q) (record { points = n; symbols = s.q * s.q; places = received_word s ++ drop n s.places })
    (record { points = 0; symbols = 0; places = s.places })
