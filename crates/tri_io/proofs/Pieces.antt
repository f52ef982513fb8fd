-- Bytes that come, or go, in pieces.
use Rattle.std.proofs.lemmas.List.{length-append, length-take, append_assoc, drop_at, drop-take, take-take, take-append-drop, take_rest}
use Rattle.std.proofs.Common.{◌≡◌, ℕ, ◌≤◌, ◌+◌, ◌-◌, arith, List, ◌++◌, take, drop, length, Option, Some, None, Ok, ap, ◌∙◌, sym}
use Rattle.tri_io.specs.declared.source.SourceFailed.{SourceFailed}
use Rattle.tri_io.specs.declared.sink.SinkFailed.{SinkFailed}
use Rattle.tri_io.specs.SingleCalls.{Reads, Puts}
use Rattle.tri_io.specs.WholeStreams.{TakesFront, PutsAll}

-- these bytes were taken from the front of what was left
abbrev pub Taken : Option (List ℕ) → Option (List ℕ) → List ℕ → Type 0
Taken (Some before) (Some after) bytes = before ≡ bytes ++ after
Taken None None bytes = Unit {0}
Taken (Some before) None bytes = ⊥
Taken None (Some after) bytes = ⊥

-- one piece more was taken
pub taken_more : (old mid new : Option (List ℕ)) (bytes buffer : List ℕ) (n : ℕ) → Taken old mid bytes → Reads {E = SourceFailed} mid new (Ok n) buffer → Taken old new (bytes ++ take n buffer)
taken_more (Some o) (Some m) (Some w) bytes buffer n h k = h ∙ (ap (λ l. bytes ++ l) k.0 ∙ sym (append_assoc bytes (take n buffer) w))
taken_more None None None bytes buffer n h k = tt
taken_more None None (Some w) bytes buffer n h k = absurd k
taken_more (Some o) (Some m) None bytes buffer n h k = absurd k
taken_more None (Some m) new bytes buffer n h k = absurd h
taken_more (Some o) None new bytes buffer n h k = absurd h

-- so many bytes were taken, within the limit
pub taken_front : (limit : ℕ) (old new : Option (List ℕ)) (bytes : List ℕ) → Taken old new bytes → length bytes ≤ limit → TakesFront limit old new
taken_front limit (Some o) (Some w) bytes h within =
    (length bytes, within, omega (arith, ap length h, length-append bytes w), sym (ap (λ l. drop (length bytes) l) h ∙ drop_at bytes w (length bytes) (λ _. length bytes)))
taken_front limit None None bytes h within = tt
taken_front limit (Some o) None bytes h within = absurd h
taken_front limit None (Some w) bytes h within = absurd h

-- the front and the next n bytes are a longer front
front_more : (bytes : List ℕ) (at n : ℕ) → take at bytes ++ take n (drop at bytes) ≡ take (at + n) bytes
front_more bytes at n = ap (λ l. take at bytes ++ l) (sym (drop-take at n bytes)) ∙ (ap (λ l. l ++ drop at (take (at + n) bytes)) (sym (take-take at (at + n) bytes (omega arith))) ∙ take-append-drop at (take (at + n) bytes))

-- one piece more was put: the first n bytes of the piece, which is the front of the rest
pub put_more : (old mid new : Option (List ℕ)) (bytes : List ℕ) (at piece n : ℕ) → PutsAll old mid (take at bytes) → Puts {E = SinkFailed} mid new (Ok n) (take piece (take (length bytes - at) (drop at bytes)))
    → n ≤ length (take piece (take (length bytes - at) (drop at bytes))) → PutsAll old new (take (at + n) bytes)
put_more (Some o) (Some m) (Some w) bytes at piece n h k within =
    let rest = take (length bytes - at) (drop at bytes) in
    let fits : n ≤ piece = omega (arith, length-take piece rest) in
    let front : take n (take piece rest) ≡ take n (drop at bytes) = take-take n piece rest fits ∙ ap (λ l. take n l) (take_rest bytes at) in
    k ∙ (ap (λ l. l ++ take n (take piece rest)) h ∙ (append_assoc o (take at bytes) (take n (take piece rest)) ∙ ap (λ l. o ++ l) (ap (λ l. take at bytes ++ l) front ∙ front_more bytes at n)))
put_more None None None bytes at piece n h k within = tt
put_more None None (Some w) bytes at piece n h k within = absurd k
put_more (Some o) (Some m) None bytes at piece n h k within = absurd k
put_more None (Some m) new bytes at piece n h k within = absurd h
put_more (Some o) None new bytes at piece n h k within = absurd h

-- and no more than there are
pub put_within : (bytes : List ℕ) (at piece n : ℕ) → at ≤ length bytes → n ≤ length (take piece (take (length bytes - at) (drop at bytes))) → at + n ≤ length bytes
put_within bytes at piece n within h = omega (arith, length-take piece (take (length bytes - at) (drop at bytes)), length-take (length bytes - at) (drop at bytes))
