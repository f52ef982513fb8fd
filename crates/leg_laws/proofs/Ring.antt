-- The ring has one play: by what they took, the legs stand where the three in step stand.
use Rattle.std.proofs.Common.{◌≡◌, ℕ, zero, suc, ◌<◌, ◌≤◌, length, refl, ap, ◌∙◌, arith}
use Rattle.tri_base.specs.declared.leg.Leg.{Leg}
use Rattle.tri_base.specs.declared.leg.Side.TheVariants.{Left, Right}
use Rattle.tri_base.specs.Legs.{left_of, right_of}
use Rattle.engine_face.specs.Meaning.{Meaning}
use Rattle.leg_laws.specs.Plays.{Play}
use Rattle.leg_laws.specs.Rounds.{Standing, in_step, round, put_in}
use Rattle.leg_laws.specs.SentTaken.{SentTaken, packet_of, by_taken}
use Rattle.leg_laws.specs.Links.{Linked, Honest}

module _ (m : Meaning) (play : Play) (ls : Leg → SentTaken) (rounds : ℕ) (linked : Linked ls)
    (honest : Honest m play ls rounds) where
  pub one_play : (r : ℕ) (x : Leg) → r ≤ rounds → r ≤ length (ls x).taken_left → r ≤ length (ls x).taken_right
      → by_taken m play x (ls x) r ≡ in_step m play x r
  unfolding by_taken in_step
  one_play zero x b p q = refl
  one_play (suc r) x b p q =
      let fl = linked.from_left x in
      let fr = linked.from_right x in
      let mine : by_taken m play x (ls x) r ≡ in_step m play x r =
      one_play r x (omega (arith, b)) (omega (arith, p)) (omega (arith, q)) in
      let there : r < length (ls (left_of x)).sent_right = omega (arith, fl.0, p) in
      let here : r < length (ls (right_of x)).sent_left = omega (arith, fr.0, q) in
      let theirs : by_taken m play (left_of x) (ls (left_of x)) r ≡ in_step m play (left_of x) r =
      one_play r (left_of x) (omega (arith, b)) (omega (arith, there, honest.left (left_of x) Right))
      (omega (arith, there, honest.right (left_of x) Right)) in
      let ours : by_taken m play (right_of x) (ls (right_of x)) r ≡ in_step m play (right_of x) r =
      one_play r (right_of x) (omega (arith, b)) (omega (arith, here, honest.left (right_of x) Left))
      (omega (arith, here, honest.right (right_of x) Left)) in
      let a : packet_of (ls x).taken_left r ≡ put_in play (left_of x) Right (in_step m play (left_of x) r) =
      fl.1 r p
      ∙ (honest.puts (left_of x) Right r b there ∙ ap (λ (s : Standing). put_in play (left_of x) Right s) theirs) in
      let c : packet_of (ls x).taken_right r ≡ put_in play (right_of x) Left (in_step m play (right_of x) r) =
      fr.1 r q
      ∙ (honest.puts (right_of x) Left r b here ∙ ap (λ (s : Standing). put_in play (right_of x) Left s) ours) in
      λ i. round m play x (mine i) (a i) (c i)
