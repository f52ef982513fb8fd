-- What is shown is the sheet of the packet.
use Rattle.std.proofs.Common.{◌≡◌, ℕ, ℤ, nat_abs, List, [], ◌∷◌, Option, Some, None, refl, sym, ap, subst, ◌∙◌}
use Rattle.leg_packet.specs.Sheets.{Sheet, IsCanonical, spelled, sheet_of, flat}
use Rattle.leg_packet.specs.Views.{Shows, IsViewOf}
use Rattle.leg_packet.specs.declared.views.OutView.{OutView}
use Rattle.re_education.specs.declared.shown.Shown.{Shown}
use Rattle.re_education.specs.Inner.Shown.{pairs_in, sheet_in, IsSound, TellsOf}

pub pairs_in_flat : (pairs : List (ℕ × ℤ)) → pairs_in (flat pairs) ≡ pairs
pairs_in_flat [] = refl
pairs_in_flat (pair ∷ pairs) = ap (λ ps. pair ∷ ps) (pairs_in_flat pairs)

pub record Converts (view : OutView) (v : Shown) : Type 0 where
  pub epoch : v.epoch ≡ nat_abs view.epoch
  pub turn : v.turn ≡ nat_abs view.turn
  pub text_length : v.text_length ≡ nat_abs view.text_length
  pub word_length : v.word_length ≡ nat_abs view.word_length
  pub window : v.window.now ≡ view.window.now
  pub pairs : v.pairs.now ≡ view.pairs.now

same_sheet : (s : Sheet) (view : OutView) (v : Shown) → Shows s view → Converts view v → sheet_in v ≡ record s { outputs = [] }
same_sheet s view v h k = λ i. record {
  epoch = (k.epoch ∙ ap nat_abs h.epoch) i;
  turn = (k.turn ∙ ap nat_abs h.turn) i;
  text_length = (k.text_length ∙ ap nat_abs h.text_length) i;
  word_length = (k.word_length ∙ ap nat_abs h.word_length) i;
  window = (k.window ∙ h.window) i;
  pairs = (ap pairs_in (k.pairs ∙ h.pairs) ∙ pairs_in_flat s.pairs) i;
  outputs = [];
}

sound : (s : Sheet) (view : OutView) (v : Shown) → IsCanonical s → Shows s view → Converts view v → IsSound v
sound s view v c h k = record {
  canonical = subst IsCanonical (sym (same_sheet s view v h k)) (record {
    epoch = c.epoch;
    text_length = c.text_length;
    word_length = c.word_length;
    turn = c.turn;
    window = c.window;
    bytes = c.bytes;
    pairs = c.pairs;
  });
  pairs = (k.pairs ∙ h.pairs) ∙ ap flat (sym (pairs_in_flat s.pairs)) ∙ ap (λ ws. flat (pairs_in ws)) (sym (k.pairs ∙ h.pairs));
}

pub tells : (p : List ℤ) (view : OutView) (v : Shown) → IsViewOf (sheet_of p) (Some view) → ((s : Sheet) × IsCanonical s × (spelled s ≡ p) × Shows s view) → Converts view v → TellsOf (sheet_of p) (Some v)
tells p view v h said k = by (sheet_of p) h
  where
    by : (o : Option Sheet) → IsViewOf o (Some view) → TellsOf o (Some v)
    by None g = absurd g
    by (Some s) g = record { sound = sound said.0 view v said.1 said.3 k; same = same_sheet s view v g k }
