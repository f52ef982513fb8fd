-- Programs: what is read is spelled so, what is spelled so is read, no tokens have two trees, and a refusal is at the
-- first token with which no program goes on.
use Rattle.std.proofs.Common.{◌≡◌, ℕ, zero, suc, ◌+◌, ◌-◌, ◌<◌, ◌≤◌, Bool, true, false, List, [], ◌∷◌, ◌++◌, length, take, Some, None, Ok, Err, refl, ap, sym, ◌∙◌, subst, append_assoc, append-nil, length-append, arith}
use Rattle.st_tree.specs.declared.token.Fixed.TheVariants as w
use Rattle.st_tree.specs.declared.token.Token.{Token}
use Rattle.st_tree.specs.declared.declaration.PlacedName.{PlacedName}
use Rattle.st_tree.specs.declared.declaration.Block.{Block}
use Rattle.st_tree.specs.declared.statement.Statement.{Statement}
use Rattle.st_tree.specs.declared.program.Tree.{Tree}
use Rattle.st_tree.specs.Pieces.{Piece, ArePieces, ◌·◌, word, each}
use Rattle.st_tree.specs.Pieces as pieces
use Rattle.st_tree.specs.Declarations.{spell_block}
use Rattle.st_tree.specs.Statements.{spell_statement}
use Rattle.st_tree.specs.Programs.{spell_program, Spells, Begins, IsFirstImpossible}
use Rattle.st_parser.specs.Inner.Parsers.{Outcome, and_then, Look, ahead, first, ◌⨟◌, name, sees, sees_name}
use Rattle.st_parser.specs.Inner.ReadStatements.{sees_statement}
use Rattle.st_parser.specs.Inner.ReadPrograms.{sees_block, blocks, program, finish, whole}
use Rattle.st_parser.proofs.Lawful.{Is, Lawful, Took, Failed, and_then_ok, same_answer}
use Rattle.st_parser.proofs.Parts.{pair, both}
use Rattle.st_parser.proofs.Choices.{Always, Or, Not, expect_word, rebuilt}
use Rattle.st_parser.proofs.Repeats.{many_part}
use Rattle.st_parser.proofs.Sets.{fit}
use Rattle.st_parser.proofs.Tokens.{name_law}
use Rattle.st_parser.proofs.DeclarationLaws.{after_same, block_law, block_some}
use Rattle.st_parser.proofs.StatementLaws.{statements_to_end}

abbrev ends_blocks : Look → Bool
ends_blocks = Or sees_statement (sees w.EndProgram)

blocks_law : (n : ℕ) → Lawful n (blocks n) (blocks (suc n)) (Is (each spell_block)) (Or (Or (sees w.Var) (sees w.VarExternal)) ends_blocks) ends_blocks
blocks_law n = many_part n sees_block _ _ spell_block (Or (sees w.Var) (sees w.VarExternal)) Always ends_blocks (block_law n)
    (fit (Or (sees w.Var) (sees w.VarExternal)) (sees_block) refl (λ _. refl) (λ _. refl) refl) (fit (ends_blocks) (Not sees_block) refl (λ _. refl) (λ _. refl) refl) (fit (Or (Or (sees w.Var) (sees w.VarExternal)) ends_blocks) (Always) refl (λ _. refl) (λ _. refl) refl) block_some

program_law : (m : ℕ) → Lawful (suc m) (program (suc m)) (program (suc (suc m))) (Is spell_program) (sees w.Program) Always
unfolding program
program_law m = rebuilt (suc m) (λ x. record { name = x.0; blocks = x.1.0; statements = x.1.1.0 }) (λ t. (t.name, (t.blocks, (t.statements, tt)))) _ _ _ spell_program (sees w.Program) Always (λ b. refl) (λ a. refl)
    (after_same (suc m) w.Program _ _ (λ (x : PlacedName × (List Block × (List Statement × Unit {0}))). pieces.name x.0 · each spell_block x.1.0 · each spell_statement x.1.1.0 · word w.EndProgram) sees_name Always
    (both (suc m) name name _ _ pieces.name (λ (x : List Block × (List Statement × Unit {0})). each spell_block x.0 · each spell_statement x.1.0 · word w.EndProgram) sees_name Always (Or (Or (sees w.Var) (sees w.VarExternal)) ends_blocks) Always (name_law (suc m))
    (both (suc m) _ _ _ _ (each spell_block) (λ (x : List Statement × Unit {0}). each spell_statement x.0 · word w.EndProgram) (Or (Or (sees w.Var) (sees w.VarExternal)) ends_blocks) ends_blocks ends_blocks Always (blocks_law (suc m))
    (both (suc m) _ _ _ _ (each spell_statement) (λ _. word w.EndProgram) ends_blocks (sees w.EndProgram) (sees w.EndProgram) Always (statements_to_end m) (expect_word (suc m) w.EndProgram) (fit (sees w.EndProgram) (sees w.EndProgram) refl (λ _. refl) (λ _. refl) refl))
    (fit (ends_blocks) (ends_blocks) refl (λ _. refl) (λ _. refl) refl))
    (fit (Or (Or (sees w.Var) (sees w.VarExternal)) ends_blocks) (Always) refl (λ _. refl) (λ _. refl) refl)))

-- ---- the end

abbrev no_more : Look → Bool
no_more None = true
no_more (Some k) = false

finish_law : (n : ℕ) → Lawful n finish finish (Is (λ _. [])) no_more no_more
finish_law n = record {
  takes = takes;
  fails = fails;
  again = λ u front ks h short e. again u front ks h e;
  heads = λ u front ks h e. heads front ks h e;
  same = λ ts short. refl;
  sample = record { value = tt; tokens = []; spelled = tt };
}
  where
    ends : (js : List Token) → first js ≡ None → finish js ≡ Ok (tt, js)
    ends [] e = refl
    ends (j ∷ js) e = absurd (cc)

    goes_on : (t : Token) (js : List Token) → first js ≡ Some t → finish js ≡ Err (length js)
    goes_on t [] e = absurd (cc)
    goes_on t (j ∷ js) e = refl

    takes : (ts : List Token) (u : Unit {0}) (ks : List Token) → finish ts ≡ Ok (u, ks) → Took finish (Is (λ _. [])) ts u ks
    takes [] u ks h = subst (λ (y : Unit {0} × List Token). Took finish (Is (λ _. [])) [] y.0 y.1) (same_answer tt u [] ks h) (record { front = []; whole = refl; spelled = tt; local = ends })
    takes (t ∷ ts) u ks h = absurd (cc)

    fails : (ts : List Token) (left : ℕ) → finish ts ≡ Err left → Failed finish (Is (λ _. [])) ts left
    fails [] left h = absurd (cc)
    fails (t ∷ ts) left h = record { front = []; ks = t ∷ ts; whole = refl; remains = cc; local = goes_on t; end = []; value = tt; completed = tt }

    again : (u : Unit {0}) (front ks : List Token) → Is (λ _. []) u front → no_more (ahead ks) ≡ true → finish (front ++ ks) ≡ Ok (u, ks)
    again u [] [] h e = refl
    again u [] (k ∷ ks) h e = absurd (cc)
    again u (t ∷ ts) ks h e = absurd h

    heads : (front ks : List Token) → ArePieces [] front → no_more (ahead ks) ≡ true → no_more (ahead (front ++ ks)) ≡ true
    heads [] ks h e = e
    heads (t ∷ ts) ks h e = absurd h

whole_law : (m : ℕ) → Lawful (suc m) (whole (suc m)) (whole (suc (suc m))) (Is spell_program) (sees w.Program) no_more
unfolding whole
whole_law m = rebuilt (suc m) (λ x. x.0) (λ t. (t, tt)) _ _ (pair spell_program (λ _. [])) spell_program (sees w.Program) no_more (λ b. refl) (λ a. sym (append-nil (spell_program a.0)))
    (both (suc m) _ _ finish finish spell_program (λ _. []) (sees w.Program) Always no_more no_more (program_law m) (finish_law (suc m)) (fit (no_more) (Always) refl (λ _. refl) (λ _. refl) refl))

finished : (ts : List Token) (u : Unit {0}) (ks : List Token) → finish ts ≡ Ok (u, ks) → ks ≡ []
finished [] u ks h = sym (ap (λ (x : Unit {0} × List Token). x.1) (same_answer tt u [] ks h))
finished (t ∷ ts) u ks h = absurd (cc)

whole_ends : (n : ℕ) (ts : List Token) (tree : Tree) (ks : List Token) → whole n ts ≡ Ok (tree, ks) → ks ≡ []
unfolding whole
whole_ends n ts tree ks h =
    let (x, js, one, k) = and_then_ok ((program n ⨟ finish) ts) (λ x js. Ok (x.0, js)) (tree, ks) h in
    let (t, is, two, m) = and_then_ok (program n ts) (λ t is. and_then (finish is) (λ u us. Ok ((t, u), us))) (x, js) one in
    let (u, us, three, q) = and_then_ok (finish is) (λ u us. Ok ((t, u), us)) (x, js) m in
    sym (ap (λ (y : Tree × List Token). y.1) (same_answer x.0 tree js ks k))
    ∙ (sym (ap (λ (y : (Tree × Unit {0}) × List Token). y.1) (same_answer (t, u) x us js q)) ∙ finished is u us three)

-- ---- what the reader is for

-- what is read is spelled so
pub is_spelled : (m : ℕ) (ts : List Token) (tree : Tree) (ks : List Token) → whole (suc m) ts ≡ Ok (tree, ks) → Spells tree ts
unfolding Spells
is_spelled m ts tree ks h =
    let f = (whole_law m).takes ts tree ks h in
    let none = whole_ends (suc m) ts tree ks h in
    subst (ArePieces (spell_program tree)) (sym (f.whole ∙ (ap (λ l. f.front ++ l) none ∙ append-nil f.front))) f.spelled

-- what is spelled so is read
pub is_read : (m : ℕ) (ts : List Token) (tree : Tree) → length ts ≤ m → Spells tree ts → whole (suc m) ts ≡ Ok (tree, [])
unfolding Spells
is_read m ts tree few h = sym (ap (whole (suc m)) (append-nil ts)) ∙ (whole_law m).again tree ts [] h (omega arith) refl

-- no tokens have two trees
pub one_tree : (ts : List Token) (a b : Tree) → Spells a ts → Spells b ts → a ≡ b
one_tree ts a b h k =
    let both : ◌≡◌ {A = Outcome Tree} (Ok (a, [])) (Ok (b, [])) = sym (is_read (length ts) ts a (omega arith) h) ∙ is_read (length ts) ts b (omega arith) k in
    ap (λ (x : Tree × List Token). x.0) (same_answer a b [] [] both)

-- more turns and levels change nothing
more_levels : (k m : ℕ) (ts : List Token) → length ts ≤ m → whole (suc m) ts ≡ whole (suc (k + m)) ts
more_levels zero m ts few = let e : m ≡ 0 + m = omega arith in ap (λ n. whole (suc n) ts) e
more_levels (suc k) m ts few =
    more_levels k m ts few ∙ ((whole_law (k + m)).same ts (omega arith) ∙ (let e : suc (k + m) ≡ suc k + m = omega arith in ap (λ n. whole (suc n) ts) e))

take_front : (front ks : List Token) → take (length front) (front ++ ks) ≡ front
take_front [] ks = refl
take_front (t ∷ ts) ks = ap (λ l. t ∷ l) (take_front ts ks)

take_one_more : (front : List Token) (k : Token) (ks : List Token) → take (suc (length front)) (front ++ k ∷ ks) ≡ front ++ k ∷ []
take_one_more [] k ks = refl
take_one_more (t ∷ ts) k ks = ap (λ l. t ∷ l) (take_one_more ts k ks)

-- no program begins with the tokens up to and with the one at which the reader stops
no_program_goes_on : (ts : List Token) (left : ℕ) → whole (suc (length ts)) ts ≡ Err left → length ts - left < length ts → Begins (take (length ts - left + 1) ts) → ⊥
unfolding Spells
no_program_goes_on ts left h below (tree, more, spelled) = by f.ks f.whole f.remains f.local
  where
    m : ℕ
    m = length (take (length ts - left + 1) ts ++ more) + length ts

    failed : whole (suc m) ts ≡ Err left
    failed = sym (more_levels (length (take (length ts - left + 1) ts ++ more)) (length ts) ts (omega arith)) ∙ h

    f : Failed (whole (suc m)) (Is spell_program) ts left
    f = (whole_law m).fails ts left failed

    by : (ks : List Token) → ts ≡ f.front ++ ks → length ks ≡ left → ((js : List Token) → first js ≡ first ks → whole (suc m) (f.front ++ js) ≡ Err (length js)) → ⊥
    by [] whole_is remains local = omega (arith, ap length whole_is, length-append f.front [])
    by (k ∷ ks) whole_is remains local =
        let at : length ts - left + 1 ≡ suc (length f.front) = omega (arith, ap length whole_is, length-append f.front (k ∷ ks), remains) in
        let taken : take (length ts - left + 1) ts ≡ f.front ++ k ∷ [] = ap (λ n. take n ts) at ∙ (ap (take (suc (length f.front))) whole_is ∙ take_one_more f.front k ks) in
        let program_is : take (length ts - left + 1) ts ++ more ≡ f.front ++ (k ∷ more) = ap (λ l. l ++ more) taken ∙ append_assoc f.front (k ∷ []) more in
        let fits : length (take (length ts - left + 1) ts ++ more) ≤ m = omega arith in
        let read : whole (suc m) (f.front ++ (k ∷ more)) ≡ Ok (tree, []) = sym (ap (whole (suc m)) program_is) ∙ is_read m (take (length ts - left + 1) ts ++ more) tree fits spelled in
        let refused : whole (suc m) (f.front ++ (k ∷ more)) ≡ Err (length (k ∷ more)) = local (k ∷ more) refl in
        absurd (cc)

-- a refusal is at the first impossible token
pub is_first_impossible : (ts : List Token) (left : ℕ) → whole (suc (length ts)) ts ≡ Err left → IsFirstImpossible ts (length ts - left)
unfolding Spells
is_first_impossible ts left h =
    let f = (whole_law (length ts)).fails ts left h in
    let at : length ts - left ≡ length f.front = omega (arith, ap length f.whole, length-append f.front f.ks, f.remains) in
    let front : take (length ts - left) ts ≡ f.front = ap (λ n. take n ts) at ∙ (ap (take (length f.front)) f.whole ∙ take_front f.front f.ks) in
    record {
      within = omega arith;
      before = (f.value, f.end, subst (λ l. ArePieces (spell_program f.value) (l ++ f.end)) (sym front) f.completed);
      there = no_program_goes_on ts left h;
      no_program = λ tree spelled. let read = is_read (length ts) ts tree (omega arith) spelled in absurd (cc);
    }

-- ---- the same, with the number as the code counts it

one_level : (ts : List Token) → length ts + 1 ≡ suc (length ts)
one_level ts = omega arith

pub read_is_spelled : (ts : List Token) (tree : Tree) (ks : List Token) → whole (length ts + 1) ts ≡ Ok (tree, ks) → Spells tree ts
read_is_spelled ts tree ks h = is_spelled (length ts) ts tree ks (sym (ap (λ n. whole n ts) (one_level ts)) ∙ h)

pub refused_is_first : (ts : List Token) (left : ℕ) → whole (length ts + 1) ts ≡ Err left → IsFirstImpossible ts (length ts - left)
refused_is_first ts left h = is_first_impossible ts left (sym (ap (λ n. whole n ts) (one_level ts)) ∙ h)
