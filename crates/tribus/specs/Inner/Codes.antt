-- The codes of what contracts see, by which proofs tell values apart.
use Rattle.std.specs.Prelude.{ℤ, List, refl}
use Rattle.std.specs.Coded.{Coded, code_by, coded×, coded_list, coded_ℤ}
use Rattle.atomic_table.specs.Seated.{TableId, table_id_coded}
use Rattle.tri_base.specs.declared.leg.Triple.{Triple}
use Rattle.tribus.specs.Ends.{End, Trace, end, trace}
use Rattle.tribus.specs.SentTaken.{SentTaken}
use Rattle.tribus.specs.Posts.{PostPlace, PostValue}
use Rattle.tribus.specs.Settling.{SettledPost}

module _ {T : Type 0} (c : Coded T) where
  -- An end's.
  abbrev pub end_code : Coded (End T)
  end_code =
      code_by (TableId × List T) (coded× table_id_coded (coded_list c)) (λ e. (e.link, e.list))
      (λ p. end p.0 p.1) (λ _. refl)

  -- A settled link's.
  abbrev pub trace_code : Coded (Trace T)
  trace_code =
      code_by (List T × (List T × List T)) (coded× (coded_list c) (coded× (coded_list c) (coded_list c)))
      (λ t. (t.sent, (t.taken, t.left))) (λ p. trace p.0 p.1.0 p.1.1) (λ _. refl)

  -- Of three of a kind.
  abbrev pub triple_code : Coded (Triple T)
  triple_code =
      code_by (T × (T × T)) (coded× c (coded× c c)) (λ t. (t.a, (t.b, t.c)))
      (λ p. record { a = p.0; b = p.1.0; c = p.1.1 }) (λ _. refl)

  -- Of four of a kind.
  abbrev pub four_code : Coded ((T × T) × (T × T))
  four_code = coded× (coded× c c) (coded× c c)

-- A place's.
abbrev pub post_place_code : Coded PostPlace
post_place_code =
    code_by ((TableId × TableId) × (TableId × TableId)) (four_code table_id_coded)
    (λ s. ((s.to_left, s.to_right), (s.from_left, s.from_right)))
    (λ p. record { to_left = p.0.0; to_right = p.0.1; from_left = p.1.0; from_right = p.1.1 }) (λ _. refl)

-- That of a bus, which is seen as its three places.
abbrev pub bus_code : Coded (Triple PostPlace)
bus_code = triple_code post_place_code

-- That of several packets' words.
abbrev pub packets_code : Coded (List (List ℤ))
packets_code = coded_list (coded_list coded_ℤ)

-- That of what a leg put and took.
abbrev pub sent_taken_code : Coded SentTaken
sent_taken_code =
    code_by ((List (List ℤ) × List (List ℤ)) × (List (List ℤ) × List (List ℤ))) (four_code packets_code)
    (λ l. ((l.sent_left, l.sent_right), (l.taken_left, l.taken_right)))
    (λ p. record { sent_left = p.0.0; sent_right = p.0.1; taken_left = p.1.0; taken_right = p.1.1 }) (λ _. refl)

-- A post's.
abbrev pub post_code : Coded PostValue
post_code =
    code_by (PostPlace × SentTaken) (coded× post_place_code sent_taken_code) (λ p. (p.place, p.lists))
    (λ p. record { place = p.0; lists = p.1 }) (λ _. refl)

-- That of a post that is back.
abbrev pub settled_post_code : Coded SettledPost
settled_post_code =
    code_by (SentTaken × (List (List ℤ) × List (List ℤ))) (coded× sent_taken_code (coded× packets_code packets_code))
    (λ p. (p.lists, (p.left_on_left, p.left_on_right)))
    (λ p. record { lists = p.0; left_on_left = p.1.0; left_on_right = p.1.1 }) (λ _. refl)

-- That of a settled bus.
abbrev pub settled_code : Coded (Triple SettledPost)
settled_code = triple_code settled_post_code
