-- Each step at a box keeps the rule of its link.
use Rattle.std.proofs.Common.{◌≡◌, ◌≢◌, ℕ, zero, suc, true, false, true≢false, List, [], ◌∷◌, ◌++◌, length, set, sym, refl, ap, ◌∙◌, subst, ⊎_elim, append_assoc}
use mathlib.Core.List.{IsPrefix}
use mathlib.Core.Option.{some, some-ne-none}
use lib.ListN.{get_elem?}
use Rattle.crossbeam_queue.specs.Fifo.{Pushes, Pops, Forks, Merges, Learns}
use Rattle.crossbeam_queue.proofs.Lists.{at_set, at_snoc}
use Rattle.tribus.specs.declared.rule.Log.{Log}
use Rattle.tribus.specs.Inner.Rules.{log, Knows, KeepsOrder}

module _ {T : Type 0} where
  -- where the new one isn't at j, it is at the end
  at_end : (l : List (Log T)) (a b : Log T) (j : ℕ)
      → get_elem? l j ≢ some b → get_elem? (l ++ a ∷ []) j ≡ some b → j ≡ length l
  at_end [] a b zero n e = refl
  at_end [] a b (suc j) n e = absurd (some-ne-none b (sym e))
  at_end (x ∷ xs) a b zero n e = absurd (n e)
  at_end (x ∷ xs) a b (suc j) n e = ap suc (at_end xs a b j n e)

  -- a fact of each pass, by its number and its log
  abbrev Each : (ℕ → Log T → Type 0) → List (Log T) → Type 0
  Each F views = (port : ℕ) (v : Log T) → get_elem? views port ≡ some v → F port v

  -- what holds of the one that is set, and of the others, holds of each
  each_set : (F : ℕ → Log T → Type 0) (views : List (Log T)) (port : ℕ) (w : Log T)
      → F port w
      → ((j : ℕ) (u : Log T) → j ≢ port → get_elem? views j ≡ some u → F j u)
      → Each F (set views port w)
  each_set F views port w mine others j u e =
      ⊎_elim (λ (x : (j ≡ port) × (w ≡ u)). subst (λ (y : ℕ × Log T). F y.0 y.1) (λ i. (sym x.0 i, x.1 i)) mine)
      (λ (x : (j ≢ port) × (get_elem? views j ≡ some u)). others j u x.0 x.1)
      (at_set views port j w u e)

  -- the box is made: nothing was put
  pub begins : KeepsOrder {T = T} [] (log true true [] [] [] ∷ [])
  begins =
      let first : Log T = log true true [] [] [] in
      let mine : Knows 0 0 [] [] [] 0 first = ((λ _. (refl, refl)), λ _. (refl, refl, refl)) in (
        0,
        0,
        [],
        [],
        [],
        refl,
        each_set (Knows 0 0 [] [] []) (first ∷ []) 0 first mine
            (λ j u other e. absurd (other (at_end [] first u j (λ x. some-ne-none u (sym x)) e))),
      )

  -- an item is put
  pub sends : (n port : ℕ) (v : Log T) (x : T) → v.puts ≡ true
      → Pushes KeepsOrder n port v x (λ w. w ≡ log v.puts v.takes (v.sent ++ x ∷ []) v.taken v.left)
  sends n port v x may items views _ (sender, taker, sent, taken, left, sum, each) at =
      let w : Log T = log v.puts v.takes (v.sent ++ x ∷ []) v.taken v.left in
      let mine = each port v at in
      let more = sent ++ x ∷ [] in (
        w,
        (
          sender,
          taker,
          more,
          taken,
          left,
          ap (λ l. l ++ x ∷ []) sum ∙ append_assoc (taken ++ left) items (x ∷ []),
          each_set (Knows sender taker more taken left) views port w
              ((λ _. ((mine.0 may).0, ap (λ l. l ++ x ∷ []) (mine.0 may).1)), mine.1)
              (λ j u other e. (
                (λ p. absurd (other (((each j u e).0 p).0 ∙ sym (mine.0 may).0))),
                (each j u e).1,
              )),
        ),
        refl,
      )

  -- the item goes from the box to what was taken
  takes_one : (taken left items : List T) (x : T) → left ≡ []
      → (taken ++ left) ++ x ∷ items ≡ ((taken ++ x ∷ []) ++ left) ++ items
  takes_one taken left items x none = rw none (simp append_assoc)

  -- an item is taken while nothing was taken out at the end
  pub takes : (port : ℕ) (v : Log T) → v.takes ≡ true → v.left ≡ []
      → Pops KeepsOrder port v (λ x w. w ≡ log v.puts v.takes v.sent (v.taken ++ x ∷ []) v.left)
  takes port v may none x items views (sender, taker, sent, taken, left, sum, each) at =
      let w : Log T = log v.puts v.takes v.sent (v.taken ++ x ∷ []) v.left in
      let mine = each port v at in
      let known = mine.1 may in
      let more = taken ++ x ∷ [] in (
        w,
        (
          sender,
          taker,
          sent,
          more,
          left,
          sum ∙ takes_one taken left items x (sym known.2 ∙ none),
          each_set (Knows sender taker sent more left) views port w
              (mine.0, λ _. (known.0, ap (λ l. l ++ x ∷ []) known.1, known.2))
              (λ j u other e. ((each j u e).0, λ p. absurd (other (((each j u e).1 p).0 ∙ sym known.0)))),
        ),
        refl,
      )

  -- the pass is split in two
  pub forks : (port : ℕ) (v : Log T) → v.puts ≡ true → v.takes ≡ true
      → Forks KeepsOrder port v (log true false v.sent [] []) (log false true [] v.taken v.left)
  forks port v puts takes items views (sender, taker, sent, taken, left, sum, each) at =
      let l : Log T = log true false v.sent [] [] in
      let r : Log T = log false true [] v.taken v.left in
      let mine = each port v at in
      let vs : List (Log T) = set views port l in
      let Old : ℕ → Log T → Type 0 = λ j u. (u.puts ≡ true → (j ≡ sender) × (u.sent ≡ sent)) × (u.takes ≢ true) in
      let old : Each Old vs =
      each_set Old views port l ((λ _. mine.0 puts), λ p. true≢false (sym p))
      (λ j u other e. ((each j u e).0, λ p. other (((each j u e).1 p).0 ∙ sym (mine.1 takes).0))) in (
        sender,
        length vs,
        sent,
        taken,
        left,
        sum,
        λ j u e. ⊎_elim (λ x. ((old j u x).0, λ p. absurd ((old j u x).1 p)))
            (λ (is : r ≡ u). (
              (λ p. absurd (true≢false (sym (ap (λ (y : Log T). y.puts) is ∙ p)))),
              λ p. (
                at_end vs r u j (λ x. (old j u x).1 p) e,
                ap (λ (y : Log T). y.taken) (sym is) ∙ (mine.1 takes).1,
                ap (λ (y : Log T). y.left) (sym is) ∙ (mine.1 takes).2,
              ),
            )) (at_snoc vs r u j e),
      )

  -- the two passes are joined
  pub merges : (port : ℕ) (v : Log T) (other : ℕ) (u : Log T) → v.puts ≡ true → u.takes ≡ true
      → Merges KeepsOrder port v other u (log true true v.sent u.taken u.left) (log false false [] [] [])
  merges port v other u puts takes items views (sender, taker, sent, taken, left, sum, each) at two at' =
      let both : Log T = log true true v.sent u.taken u.left in
      let spent : Log T = log false false [] [] [] in
      let mine = each port v at in
      let vs : List (Log T) = set views port both in
      let was : get_elem? views other ≡ some u =
      ⊎_elim (λ x. absurd (two x.0)) (λ x. x.1) (at_set views port other both u at') in
      let theirs = (each other u was).1 takes in
      let Now : ℕ → Log T → Type 0 = λ j y. j ≢ other → Knows sender port sent taken left j y in
      let now : Each Now vs =
      each_set Now views port both (λ _. ((λ _. mine.0 puts), λ _. (refl, theirs.1, theirs.2)))
      (λ j y _ e apart. ((each j y e).0, λ p. absurd (apart (((each j y e).1 p).0 ∙ sym theirs.0)))) in (
        sender,
        port,
        sent,
        taken,
        left,
        sum,
        each_set (Knows sender port sent taken left) vs other spent
            ((λ p. absurd (true≢false (sym p))), λ p. absurd (true≢false (sym p)))
            (λ j y apart e. now j y e apart),
      )

  -- an item is taken out at the end
  pub takes_left : (port : ℕ) (v : Log T) → v.puts ≡ true → v.takes ≡ true
      → Pops KeepsOrder port v (λ x w.
      (w ≡ log v.puts v.takes v.sent v.taken (v.left ++ x ∷ [])) × IsPrefix ((v.taken ++ v.left) ++ x ∷ []) v.sent)
  takes_left port v puts takes x items views (sender, taker, sent, taken, left, sum, each) at =
      let w : Log T = log v.puts v.takes v.sent v.taken (v.left ++ x ∷ []) in
      let mine = each port v at in
      let known = mine.1 takes in
      let more = left ++ x ∷ [] in
      let behind = append_assoc (taken ++ left) (x ∷ []) items in (
        w,
        (
          sender,
          taker,
          sent,
          taken,
          more,
          sum ∙ (sym behind ∙ ap (λ l. l ++ items) (append_assoc taken left (x ∷ []))),
          each_set (Knows sender taker sent taken more) views port w
              (mine.0, λ _. (known.0, known.1, ap (λ l. l ++ x ∷ []) known.2))
              (λ j u other e. ((each j u e).0, λ p. absurd (other (((each j u e).1 p).0 ∙ sym known.0)))),
        ),
        (
          refl,
          (
            items,
            sym ((mine.0 puts).1 ∙ (sum ∙ (sym behind
                ∙ ap (λ (l : List T). (l ++ x ∷ []) ++ items) (λ i. sym known.1 i ++ sym known.2 i)))),
          ),
        ),
      )

  -- with both ends back it is known what the box holds
  pub learns : (port : ℕ) (v : Log T) → v.puts ≡ true → v.takes ≡ true
      → Learns KeepsOrder port v (λ items. v.sent ≡ (v.taken ++ v.left) ++ items)
  learns port v puts takes items views (sender, taker, sent, taken, left, sum, each) at =
      let mine = each port v at in
      let known = mine.1 takes in
      (mine.0 puts).1 ∙ (sum ∙ ap (λ (l : List T). l ++ items) (λ i. sym known.1 i ++ sym known.2 i))
