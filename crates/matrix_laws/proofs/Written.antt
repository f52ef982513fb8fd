-- The program of a matrix spells its tree, piece by piece.
use Rattle.std.proofs.Common.{◌≡◌, ℕ, ◌+◌, Bool, true, false, cond, List, [], ◌∷◌, ◌++◌, length, map, filter, Contains, Option, Some, None, Ok, option_to_list, refl, sym, ap, ◌∙◌, subst, arith, codes, append_assoc, append-nil, lit≤}
use Rattle.std.specs.List.{flat_map}
use Rattle.std.specs.Str.{bytes_eq}
use Rattle.std.proofs.lemmas.Grind.{flat_map-append}
use Rattle.std.proofs.lemmas.List.{map-append}
use Rattle.std.proofs.lemmas.List.Elements.{All-contains, Contains-append_left, Contains-append_right}
use Rattle.tri_base.specs.Names.{is_word_byte}
use Rattle.st_tree.specs.declared.token.Fixed.{Fixed}
use Rattle.st_tree.specs.declared.token.Fixed.TheVariants as w
use Rattle.st_tree.specs.declared.token.TokenKind.TheVariants as kind
use Rattle.st_tree.specs.declared.expression.Exclusive.{Exclusive}
use Rattle.st_tree.specs.declared.statement.Statement.TheVariants as st
use Rattle.st_tree.specs.Lexes.{Part, tokens_from, item, word_item, front}
use Rattle.st_tree.specs.Words.{reserved_word, symbol_of}
use Rattle.st_tree.specs.Pieces.{Piece, Anywhere, Placed, token_at, word}
use Rattle.st_tree.specs.ExpressionFolds.{fold_exclusive}
use Rattle.st_tree.specs.Expressions as ex
use Rattle.st_tree.specs.Expressions.{spell_expr}
use Rattle.st_tree.specs.Statements as sts
use Rattle.st_tree.specs.Statements.{spell_statement, spell_assignment}
use Rattle.st_tree.specs.Declarations.{spell_external, spell_block}
use Rattle.st_tree.specs.Programs.{spell_program, Spells}
use Rattle.st_tree.proofs.ExpressionEquations.{at-expr}
use Rattle.st_tree.proofs.StatementEquations.{at-assignment}
use Rattle.cause_effect.specs.declared.matrix.Level.{Level}
use Rattle.cause_effect.specs.declared.matrix.Level.TheVariants.{High, Low}
use Rattle.cause_effect.specs.declared.matrix.Mode.{Mode}
use Rattle.cause_effect.specs.declared.matrix.Mode.TheVariants.{Latch, Follow}
use Rattle.cause_effect.specs.declared.matrix.Link.{Link}
use Rattle.cause_effect.specs.Matrices.{MatrixValue, IsMatrix, IsFree, cause_names, effect_names, declared_names, level_of, links_to}
use Rattle.cause_effect.specs.Programs.{cause_term, hold_term, declaration_line, effect_text, program_of}
use Rattle.matrix_laws.specs.Laws.{HasTree}
use Rattle.matrix_laws.proofs.Names.{Stops, name_item, some_bytes, front_is}
use Rattle.matrix_laws.proofs.Chunks.{Chunk, join, nothing, low}
use Rattle.matrix_laws.proofs.Trees.{joined_of, tag_at, not_at, cause_at, hold_at, causes_at, causes_text, false_at, value_at, assignment_at, statements_at, declarations_at, head_bytes, effects_place, tree_of, lifted, joined, at_joined, at_tag, at_not, at_false}

-- ---- fixed pieces

abbrev gap : Part
gap = record { bytes = 32 ∷ []; token = None }

abbrev feed : Part
feed = record { bytes = 10 ∷ []; token = None }

abbrev fixed : List ℕ → Fixed → Part
fixed bytes f = record { bytes = bytes; token = Some (kind.Fixed f) }

abbrev name_part : List ℕ → Part
name_part n = record { bytes = n; token = Some (kind.Name n) }

name_chunk : (place : ℕ) (n rest : List ℕ) → IsFree n → Stops rest → Chunk place n rest (Placed (kind.Name n) place ∷ [])
name_chunk place n rest free stop = record {
  parts = name_part n ∷ [];
  bytes = append-nil n;
  items = (some_bytes n free, name_item n rest free stop, tt);
  spelled = (refl, tt);
  flat = ((λ depth. refl), tt);
}

or_chunk : (place : ℕ) (rest : List ℕ) → Chunk place (codes " OR ") rest (word w.Or)
unfolding item reserved_word symbol_of
or_chunk place rest = record {
  parts = gap ∷ fixed (codes "OR") w.Or ∷ gap ∷ [];
  bytes = refl;
  items = (lit≤ tt, refl, (lit≤ tt, refl, (lit≤ tt, refl, tt)));
  spelled = (refl, tt);
  flat = ((λ depth. refl), tt);
}

or_not_chunk : (place : ℕ) (rest : List ℕ) → Chunk place (codes " OR NOT ") rest (Anywhere (kind.Fixed w.Or) ∷ Placed (kind.Fixed w.Not) (place + 4) ∷ [])
unfolding item reserved_word symbol_of
or_not_chunk place rest = record {
  parts = gap ∷ fixed (codes "OR") w.Or ∷ gap ∷ fixed (codes "NOT") w.Not ∷ gap ∷ [];
  bytes = refl;
  items = (lit≤ tt, refl, (lit≤ tt, refl, (lit≤ tt, refl, (lit≤ tt, refl, (lit≤ tt, refl, tt)))));
  spelled = (refl, (ap (token_at (kind.Fixed w.Not)) (omega arith), tt));
  flat = ((λ depth. refl), ((λ depth. refl), tt));
}

and_not_chunk : (place : ℕ) (rest : List ℕ) → Chunk place (codes " AND NOT ") rest (Anywhere (kind.Fixed w.And) ∷ Placed (kind.Fixed w.Not) (place + 5) ∷ [])
unfolding item reserved_word symbol_of
and_not_chunk place rest = record {
  parts = gap ∷ fixed (codes "AND") w.And ∷ gap ∷ fixed (codes "NOT") w.Not ∷ gap ∷ [];
  bytes = refl;
  items = (lit≤ tt, refl, (lit≤ tt, refl, (lit≤ tt, refl, (lit≤ tt, refl, (lit≤ tt, refl, tt)))));
  spelled = (refl, (ap (token_at (kind.Fixed w.Not)) (omega arith), tt));
  flat = ((λ depth. refl), ((λ depth. refl), tt));
}

false_item : (rest : List ℕ) → Stops rest → item (codes "FALSE" ++ rest) ≡ Ok (Some (kind.Fixed w.False), 5)
unfolding item reserved_word symbol_of
false_item rest stop =
    let first : item (codes "FALSE" ++ rest) ≡ word_item (front is_word_byte (codes "FALSE" ++ rest)) = refl in
    first ∙ ap word_item (front_is (codes "FALSE") rest refl stop)

assign_chunk : (place : ℕ) (rest : List ℕ) → Stops rest → Chunk place (codes " := FALSE") rest (Anywhere (kind.Fixed w.Assign) ∷ Placed (kind.Fixed w.False) (place + 4) ∷ [])
unfolding item reserved_word symbol_of
assign_chunk place rest stop = record {
  parts = gap ∷ fixed (codes ":=") w.Assign ∷ gap ∷ fixed (codes "FALSE") w.False ∷ [];
  bytes = refl;
  items = (lit≤ tt, refl, (lit≤ tt, refl, (lit≤ tt, refl, (lit≤ tt, false_item rest stop, tt))));
  spelled = (refl, (ap (token_at (kind.Fixed w.False)) (omega arith), tt));
  flat = ((λ depth. refl), ((λ depth. refl), tt));
}

semicolon_chunk : (place : ℕ) (rest : List ℕ) → Chunk place (codes ";\n") rest (word w.Semicolon)
unfolding item reserved_word symbol_of
semicolon_chunk place rest = record {
  parts = fixed (codes ";") w.Semicolon ∷ feed ∷ [];
  bytes = refl;
  items = (lit≤ tt, refl, (lit≤ tt, refl, tt));
  spelled = (refl, tt);
  flat = ((λ depth. refl), tt);
}

bool_chunk : (place : ℕ) (rest : List ℕ) → Chunk place (codes " : BOOL;\n") rest (Anywhere (kind.Fixed w.Colon) ∷ Anywhere (kind.Fixed w.Bool) ∷ Anywhere (kind.Fixed w.Semicolon) ∷ [])
unfolding item reserved_word symbol_of
bool_chunk place rest = record {
  parts = gap ∷ fixed (codes ":") w.Colon ∷ gap ∷ fixed (codes "BOOL") w.Bool ∷ fixed (codes ";") w.Semicolon ∷ feed ∷ [];
  bytes = refl;
  items = (lit≤ tt, refl, (lit≤ tt, refl, (lit≤ tt, refl, (lit≤ tt, refl, (lit≤ tt, refl, (lit≤ tt, refl, tt))))));
  spelled = (refl, (refl, (refl, tt)));
  flat = ((λ depth. refl), ((λ depth. refl), ((λ depth. refl), tt)));
}

head_chunk : (rest : List ℕ) → Chunk 0 (codes "PROGRAM MATRIX\nVAR_EXTERNAL\n") rest (Anywhere (kind.Fixed w.Program) ∷ Placed (kind.Name (codes "MATRIX")) 8 ∷ Anywhere (kind.Fixed w.VarExternal) ∷ [])
unfolding item reserved_word symbol_of
head_chunk rest = record {
  parts = fixed (codes "PROGRAM") w.Program ∷ gap ∷ name_part (codes "MATRIX") ∷ feed ∷ fixed (codes "VAR_EXTERNAL") w.VarExternal ∷ feed ∷ [];
  bytes = refl;
  items = (lit≤ tt, refl, (lit≤ tt, refl, (lit≤ tt, refl, (lit≤ tt, refl, (lit≤ tt, refl, (lit≤ tt, refl, tt))))));
  spelled = (refl, (refl, (refl, tt)));
  flat = ((λ depth. refl), ((λ depth. refl), ((λ depth. refl), tt)));
}

end_var_chunk : (place : ℕ) (rest : List ℕ) → Chunk place (codes "END_VAR\n") rest (word w.EndVar)
unfolding item reserved_word symbol_of
end_var_chunk place rest = record {
  parts = fixed (codes "END_VAR") w.EndVar ∷ feed ∷ [];
  bytes = refl;
  items = (lit≤ tt, refl, (lit≤ tt, refl, tt));
  spelled = (refl, tt);
  flat = ((λ depth. refl), tt);
}

end_chunk : (place : ℕ) (rest : List ℕ) → Chunk place (codes "END_PROGRAM\n") rest (word w.EndProgram)
unfolding item reserved_word symbol_of
end_chunk place rest = record {
  parts = fixed (codes "END_PROGRAM") w.EndProgram ∷ feed ∷ [];
  bytes = refl;
  items = (lit≤ tt, refl, (lit≤ tt, refl, tt));
  spelled = (refl, tt);
  flat = ((λ depth. refl), tt);
}

-- ---- what operands spell

plain_spelled : (a : List Piece) → lifted ex.spelled a ≡ a
plain_spelled a = append-nil (((a ++ []) ++ []) ++ []) ∙ (append-nil ((a ++ []) ++ []) ∙ (append-nil (a ++ []) ∙ append-nil a))

single_spelled : (a : List Piece) → joined ex.spelled a [] ≡ a
single_spelled a = append-nil (lifted ex.spelled a ++ []) ∙ (append-nil (lifted ex.spelled a) ∙ plain_spelled a)

double_spelled : (a b : List Piece) → joined ex.spelled a (b ∷ []) ≡ a ++ (word w.And ++ b)
double_spelled a b =
    append-nil (lifted ex.spelled a ++ ((word w.And ++ lifted ex.spelled b) ++ []))
    ∙ (ap (λ x. lifted ex.spelled a ++ x) (append-nil (word w.And ++ lifted ex.spelled b))
    ∙ (λ i. plain_spelled a i ++ (word w.And ++ plain_spelled b i)))

abbrev name_pieces : List ℕ → ℕ → List Piece
name_pieces n place = Placed (kind.Name n) place ∷ []

abbrev not_pieces : List ℕ → ℕ → List Piece
not_pieces n place = Placed (kind.Fixed w.Not) place ∷ Placed (kind.Name n) (place + 4) ∷ []

abbrev cause_pieces : Level → List ℕ → ℕ → List Piece
cause_pieces High n place = name_pieces n place
cause_pieces Low n place = not_pieces n place

abbrev each_or : List Exclusive → List Piece
each_or xs = flat_map (λ b. word w.Or ++ b) (map (fold_exclusive ex.spelled) xs)

cause_spelled : (level : Level) (n : List ℕ) (place : ℕ) → fold_exclusive ex.spelled (joined_of (cause_at level n place) []) ≡ cause_pieces level n place
cause_spelled High n place = at_joined ex.spelled (tag_at n place) [] ∙ (ap (λ a. joined ex.spelled a []) (at_tag ex.spelled n place) ∙ single_spelled (name_pieces n place))
cause_spelled Low n place = at_joined ex.spelled (not_at n place) [] ∙ (ap (λ a. joined ex.spelled a []) (at_not ex.spelled n place) ∙ single_spelled (not_pieces n place))

hold_spelled : (effect reset : List ℕ) (place more : ℕ) → fold_exclusive ex.spelled (joined_of (tag_at effect place) (not_at reset more ∷ [])) ≡ name_pieces effect place ++ (word w.And ++ not_pieces reset more)
hold_spelled effect reset place more =
    at_joined ex.spelled (tag_at effect place) (not_at reset more ∷ [])
    ∙ ((λ i. joined ex.spelled (at_tag ex.spelled effect place i) (at_not ex.spelled reset more i ∷ []))
    ∙ double_spelled (name_pieces effect place) (not_pieces reset more))

false_spelled : (place : ℕ) → fold_exclusive ex.spelled (false_at place) ≡ Placed (kind.Fixed w.False) place ∷ []
false_spelled place =
    at_joined ex.spelled (Rattle.st_tree.specs.declared.expression.Unary.TheVariants.Plain (Rattle.st_tree.specs.declared.expression.Primary.TheVariants.Truth false place)) []
    ∙ (ap (λ a. joined ex.spelled a []) (at_false ex.spelled place) ∙ single_spelled (Placed (kind.Fixed w.False) place ∷ []))

-- ---- causes

cause_chunk : (level : Level) (n : List ℕ) (place : ℕ) (rest : List ℕ) → IsFree n → Stops rest → Chunk place (cause_term level n) rest (word w.Or ++ cause_pieces level n (place + 4))
cause_chunk High n place rest free stop = join (or_chunk place (n ++ rest)) (name_chunk (place + 4) n rest free stop)
cause_chunk Low n place rest free stop =
    let there : place + 8 ≡ place + 4 + 4 = omega arith in
    subst (λ q. Chunk place (codes " OR NOT " ++ n) rest (Anywhere (kind.Fixed w.Or) ∷ Placed (kind.Fixed w.Not) (place + 4) ∷ Placed (kind.Name n) q ∷ [])) there
    (join (or_not_chunk place (n ++ rest)) (name_chunk (place + 8) n rest free stop))

-- a property of each of some
abbrev pub Each : {X : Type 0} → (X → Type 0) → List X → Type 0
Each P [] = Unit {0}
Each P (x ∷ xs) = P x × Each P xs

cause_stops : (level : Level) (n more rest : List ℕ) → Stops ((cause_term level n ++ more) ++ rest)
cause_stops High n more rest = refl
cause_stops Low n more rest = refl

causes_stop : (m : MatrixValue) (links : List Link) (rest : List ℕ) → Stops rest → Stops (causes_text m links ++ rest)
causes_stop m [] rest stop = stop
causes_stop m (l ∷ links) rest stop = cause_stops (level_of m l.cause) l.cause (causes_text m links) rest

causes_chunk : (m : MatrixValue) (links : List Link) (place : ℕ) (rest : List ℕ) → Each (λ l. IsFree l.cause) links → Stops rest → Chunk place (causes_text m links) rest (each_or (causes_at m place links))
causes_chunk m [] place rest free stop = nothing place rest
causes_chunk m (l ∷ links) place rest free stop =
    let level = level_of m l.cause in
    let more = causes_at m (place + length (cause_term level l.cause)) links in
    subst (λ ps. Chunk place (causes_text m (l ∷ links)) rest ((word w.Or ++ ps) ++ each_or more)) (sym (cause_spelled level l.cause (place + 4)))
    (join (cause_chunk level l.cause place (causes_text m links ++ rest) free.0 (causes_stop m links rest stop))
    (causes_chunk m links (place + length (cause_term level l.cause)) rest free.1 stop))

-- ---- what keeps an effect TRUE

hold_stops : (mode : Mode) (reset : Option (List ℕ)) (effect rest : List ℕ) → Stops rest → Stops (hold_term mode reset effect ++ rest)
hold_stops Follow reset effect rest stop = stop
hold_stops Latch reset effect rest stop = refl

abbrev FreeReset : Option (List ℕ) → Type 0
FreeReset None = Unit {0}
FreeReset (Some reset) = IsFree reset

hold_chunk : (mode : Mode) (reset : Option (List ℕ)) (effect : List ℕ) (place : ℕ) (rest : List ℕ) → IsFree effect → FreeReset reset → Stops rest → Chunk place (hold_term mode reset effect) rest (each_or (hold_at mode reset effect place))
hold_chunk Follow reset effect place rest free other stop = nothing place rest
hold_chunk Latch None effect place rest free other stop =
    subst (λ ps. Chunk place (codes " OR " ++ (effect ++ [])) rest ((word w.Or ++ ps) ++ [])) (sym (cause_spelled High effect (place + 4)))
    (join (or_chunk place ((effect ++ []) ++ rest)) (join (name_chunk (place + 4) effect rest free stop) (nothing (place + 4 + length effect) rest)))
hold_chunk Latch (Some reset) effect place rest free other stop =
    let after = place + 4 + length effect in
    let there : after + 9 ≡ after + 5 + 4 = omega arith in
    let last : Chunk after (codes " AND NOT " ++ reset) rest (word w.And ++ not_pieces reset (after + 5)) =
    subst (λ q. Chunk after (codes " AND NOT " ++ reset) rest (Anywhere (kind.Fixed w.And) ∷ Placed (kind.Fixed w.Not) (after + 5) ∷ Placed (kind.Name reset) q ∷ [])) there
    (join (and_not_chunk after (reset ++ rest)) (name_chunk (after + 9) reset rest other stop)) in
    subst (λ ps. Chunk place (codes " OR " ++ (effect ++ (codes " AND NOT " ++ reset))) rest ((word w.Or ++ ps) ++ [])) (sym (hold_spelled effect reset (place + 4) (after + 5)))
    (join (or_chunk place ((effect ++ (codes " AND NOT " ++ reset)) ++ rest)) (join (name_chunk (place + 4) effect ((codes " AND NOT " ++ reset) ++ rest) free refl) last))

-- ---- the line of an effect

each_or_append : (xs ys : List Exclusive) → each_or (xs ++ ys) ≡ each_or xs ++ each_or ys
each_or_append xs ys =
    ap (λ zs. flat_map (λ b. word w.Or ++ b) zs) (map-append (fold_exclusive ex.spelled) xs ys)
    ∙ flat_map-append (λ b. word w.Or ++ b) (map (fold_exclusive ex.spelled) xs) (map (fold_exclusive ex.spelled) ys)

value_spelled : (m : MatrixValue) (e : List ℕ × Mode) (place : ℕ) (causes hold : List Exclusive) → causes ≡ causes_at m (place + length e.0 + 9) (links_to m e.0)
    → hold ≡ hold_at e.1 m.reset e.0 (place + length e.0 + 9 + length (causes_text m (links_to m e.0)))
    → spell_expr (value_at m e place) ≡ Placed (kind.Fixed w.False) (place + length e.0 + 4) ∷ (each_or causes ++ each_or hold)
unfolding spell_expr
value_spelled m e place causes hold c h =
    at-expr ex.spelled (false_at (place + length e.0 + 4)) (causes_at m (place + length e.0 + 9) (links_to m e.0) ++ hold_at e.1 m.reset e.0 (place + length e.0 + 9 + length (causes_text m (links_to m e.0))))
    ∙ (λ i. false_spelled (place + length e.0 + 4) i ++ each_or (sym c i ++ sym h i))
    ∙ ap (λ ps. Placed (kind.Fixed w.False) (place + length e.0 + 4) ∷ ps) (each_or_append causes hold)

statement_spelled : (m : MatrixValue) (e : List ℕ × Mode) (place : ℕ)
    → spell_statement (st.Assignment (assignment_at m e place))
    ≡ name_pieces e.0 place ++ ((Anywhere (kind.Fixed w.Assign) ∷ Placed (kind.Fixed w.False) (place + length e.0 + 4) ∷ [])
    ++ (each_or (causes_at m (place + length e.0 + 9) (links_to m e.0))
    ++ (each_or (hold_at e.1 m.reset e.0 (place + length e.0 + 9 + length (causes_text m (links_to m e.0)))) ++ word w.Semicolon)))
unfolding spell_statement
statement_spelled m e place =
    let causes = causes_at m (place + length e.0 + 9) (links_to m e.0) in
    let hold = hold_at e.1 m.reset e.0 (place + length e.0 + 9 + length (causes_text m (links_to m e.0))) in
    at-assignment sts.spelled (assignment_at m e place)
    ∙ (ap (λ v. Placed (kind.Name e.0) place ∷ Anywhere (kind.Fixed w.Assign) ∷ (v ++ word w.Semicolon)) (value_spelled m e place causes hold refl refl)
    ∙ ap (λ ps. Placed (kind.Name e.0) place ∷ Anywhere (kind.Fixed w.Assign) ∷ Placed (kind.Fixed w.False) (place + length e.0 + 4) ∷ ps) (append_assoc (each_or causes) (each_or hold) (word w.Semicolon)))

effect_chunk : (m : MatrixValue) (e : List ℕ × Mode) (place : ℕ) (rest : List ℕ) → IsFree e.0 → FreeReset m.reset → Each (λ l. IsFree l.cause) (links_to m e.0) → Chunk place (effect_text m e) rest (spell_statement (st.Assignment (assignment_at m e place)))
effect_chunk m e place rest free reset links =
    let causes = causes_text m (links_to m e.0) in
    let hold = hold_term e.1 m.reset e.0 in
    let at = place + length e.0 in
    let held = hold_stops e.1 m.reset e.0 (codes ";\n" ++ rest) refl in
    let rest_of_causes : List ℕ = (hold ++ codes ";\n") ++ rest in
    let stop : Stops rest_of_causes = subst Stops (sym (append_assoc hold (codes ";\n") rest)) held in
    let stop_all : Stops ((causes ++ (hold ++ codes ";\n")) ++ rest) = subst Stops (sym (append_assoc causes (hold ++ codes ";\n") rest)) (causes_stop m (links_to m e.0) rest_of_causes stop) in
    subst (Chunk place (effect_text m e) rest) (sym (statement_spelled m e place))
    (join (name_chunk place e.0 ((codes " := FALSE" ++ (causes ++ (hold ++ codes ";\n"))) ++ rest) free refl)
    (join (assign_chunk at ((causes ++ (hold ++ codes ";\n")) ++ rest) stop_all)
    (join (causes_chunk m (links_to m e.0) (at + 9) rest_of_causes links stop)
    (join (hold_chunk e.1 m.reset e.0 (at + 9 + length causes) (codes ";\n" ++ rest) free reset refl)
    (semicolon_chunk (at + 9 + length causes + length hold) rest)))))

statements_chunk : (m : MatrixValue) (effects : List (List ℕ × Mode)) (place : ℕ) (rest : List ℕ) → Each (λ e. IsFree e.0) effects → FreeReset m.reset → ((effect : List ℕ) → Each (λ l. IsFree l.cause) (links_to m effect)) → Chunk place (flat_map (effect_text m) effects) rest (flat_map spell_statement (statements_at m place effects))
statements_chunk m [] place rest free reset links = nothing place rest
statements_chunk m (e ∷ effects) place rest free reset links =
    join (effect_chunk m e place (flat_map (effect_text m) effects ++ rest) free.0 reset (links e.0))
    (statements_chunk m effects (place + length (effect_text m e)) rest free.1 reset links)

-- ---- declarations

declarations_chunk : (names : List (List ℕ)) (place : ℕ) (rest : List ℕ) → Each IsFree names → Chunk place (flat_map declaration_line names) rest (flat_map (λ d. d) (map spell_external (declarations_at place names)))
declarations_chunk [] place rest free = nothing place rest
declarations_chunk (n ∷ names) place rest free =
    join (join (name_chunk place n (codes " : BOOL;\n" ++ (flat_map declaration_line names ++ rest)) free.0 refl) (bool_chunk (place + length n) (flat_map declaration_line names ++ rest)))
    (declarations_chunk names (place + length (declaration_line n)) rest free.1)

-- ---- the program

program_spelled : (m : MatrixValue) → spell_program (tree_of m)
    ≡ (Anywhere (kind.Fixed w.Program) ∷ Placed (kind.Name (codes "MATRIX")) 8 ∷ Anywhere (kind.Fixed w.VarExternal) ∷ [])
    ++ (flat_map (λ d. d) (map spell_external (declarations_at head_bytes (declared_names m)))
    ++ (word w.EndVar
    ++ (flat_map spell_statement (statements_at m (effects_place m) m.effects) ++ word w.EndProgram)))
unfolding spell_block
program_spelled m =
    let declarations = flat_map (λ d. d) (map spell_external (declarations_at head_bytes (declared_names m))) in
    let statements = flat_map spell_statement (statements_at m (effects_place m) m.effects) in
    let front : List Piece → List Piece = λ ps. Anywhere (kind.Fixed w.Program) ∷ Placed (kind.Name (codes "MATRIX")) 8 ∷ Anywhere (kind.Fixed w.VarExternal) ∷ ps in
    ap (λ ps. front (ps ++ (statements ++ word w.EndProgram))) (append-nil (declarations ++ word w.EndVar))
    ∙ ap front (append_assoc declarations (word w.EndVar) (statements ++ word w.EndProgram))

whole_chunk : (m : MatrixValue) → Each IsFree (declared_names m) → Each (λ e. IsFree e.0) m.effects → FreeReset m.reset → ((effect : List ℕ) → Each (λ l. IsFree l.cause) (links_to m effect)) → Chunk 0 (program_of m) [] (spell_program (tree_of m))
whole_chunk m names effects reset links =
    let declarations = flat_map declaration_line (declared_names m) in
    let lines = flat_map (effect_text m) m.effects in
    let at = head_bytes + length declarations in
    subst (Chunk 0 (program_of m) []) (sym (program_spelled m))
    (join (head_chunk ((declarations ++ (codes "END_VAR\n" ++ (lines ++ codes "END_PROGRAM\n"))) ++ []))
    (join (declarations_chunk (declared_names m) head_bytes ((codes "END_VAR\n" ++ (lines ++ codes "END_PROGRAM\n")) ++ []) names)
    (join (end_var_chunk at ((lines ++ codes "END_PROGRAM\n") ++ []))
    (join (statements_chunk m m.effects (at + 8) (codes "END_PROGRAM\n" ++ []) effects reset links)
    (end_chunk (at + 8 + length lines) [])))))

-- ---- which names are free

pub each_of : {X : Type 0} (P : X → Type 0) (xs : List X) → ((x : X) → Contains xs x → P x) → Each P xs
each_of P [] h = tt
each_of P (x ∷ xs) h = (h x (0, omega arith, refl), each_of P xs (λ y c. h y (Contains-append_right (x ∷ []) xs y c)))

pub filtered : {X : Type 0} (P : X → Type 0) (test : X → Bool) (xs : List X) → Each P xs → Each P (filter test xs)
filtered P test [] h = tt
filtered P test (x ∷ xs) h = by (test x) (filtered P test xs h.1)
  where
    by : (t : Bool) → Each P (filter test xs) → Each P (cond t (x ∷ filter test xs) (filter test xs))
    by true k = (h.0, k)
    by false k = k

pub keyed : {X : Type 0} (P : List ℕ → Type 0) (es : List (List ℕ × X)) → Each P (map (λ e. e.0) es) → Each (λ e. P e.0) es
keyed P [] h = tt
keyed P (e ∷ es) h = (h.0, keyed P es h.1)

reset_free : (reset : Option (List ℕ)) → ((n : List ℕ) → Contains (option_to_list reset) n → IsFree n) → FreeReset reset
reset_free None h = tt
reset_free (Some reset) h = h reset (0, omega arith, refl)

pub read : (m : MatrixValue) → IsMatrix m → HasTree (program_of m) (tree_of m)
unfolding Spells
read m is =
    let free : (n : List ℕ) → Contains (declared_names m) n → IsFree n = λ n c. All-contains IsFree (declared_names m) n is.free c in
    let others = cause_names m ++ effect_names m in
    let of_cause : (n : List ℕ) → Contains (cause_names m) n → IsFree n =
    λ n c. free n (Contains-append_left others (option_to_list m.reset) n (Contains-append_left (cause_names m) (effect_names m) n c)) in
    let of_effect : (n : List ℕ) → Contains (effect_names m) n → IsFree n =
    λ n c. free n (Contains-append_left others (option_to_list m.reset) n (Contains-append_right (cause_names m) (effect_names m) n c)) in
    let of_reset : (n : List ℕ) → Contains (option_to_list m.reset) n → IsFree n =
    λ n c. free n (Contains-append_right others (option_to_list m.reset) n c) in
    let links : Each (λ l. IsFree l.cause) m.links =
    each_of (λ (l : Link). IsFree l.cause) m.links (λ l c. of_cause l.cause (All-contains (λ (l : Link). Contains (cause_names m) l.cause × Contains (effect_names m) l.effect) m.links l is.links_known c).0) in
    let c = whole_chunk m (each_of IsFree (declared_names m) free) (keyed IsFree m.effects (each_of IsFree (effect_names m) of_effect)) (reset_free m.reset of_reset)
    (λ effect. filtered (λ (l : Link). IsFree l.cause) (λ l. bytes_eq l.effect effect) m.links links) in
    record {
      tokens = tokens_from 0 c.parts;
      lexes = record { parts = c.parts; whole = sym c.bytes; items = c.items; are_tokens = refl };
      low = low (tokens_from 0 c.parts) c.flat;
      spells = c.spelled;
    }
