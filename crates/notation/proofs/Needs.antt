-- What must hold before some symbols are read, so that a claim holds behind them whatever they read; the same of actions.
use Prim.Native.Nat.{ℕ, zero, suc}
use mathlib.Core.List.{List, [], ◌∷◌, ◌++◌}
use Rattle.rules.specs.declared.Kind.{Kind}
use Rattle.rules.specs.declared.Kind.TheVariants.{Constant, Expression, Arm, Statement, Block, Branch, Attribute, Parameter, Parent, Item, Device}
use Rattle.rules.specs.Types.{Types}
use Rattle.notation.specs.Tokens.{Lexeme, token_of, place_of}
use Rattle.notation.specs.Building.{Piece, byte, name, Node, node, Nodes, empty, ◌▸◌, frame, Build, build, Action, begin, begin_resource, around, instead, close, constant, read, named, parent_first, void, enter, leave, leaf, spelled, constant_node, variable_node, resource_tag, in_front, behind_label}
use Rattle.notation.specs.Grammar.{Entry, arm, attribute, parameter, Symbol, sign, a_name, expression, operators, read_or_word, close_bracket, one, maybe, further, statements, block, otherwise, branches, items, class_rest, parameters, default_value, a_constant, inherits, parent, devices, device, more_devices, ends}
use Rattle.notation.proofs.Formed.{Of, More}
use Rattle.notation.proofs.FormedNodes.{Word}

-- a bare word just read: a constant that is a label and a name
pub data Bare (S : List ℕ → Type 0) : Node → Type 0 where
  bare_word : {p l : ℕ} {w : List ℕ} → Word S w → Bare S (leaf p 0x11 (byte l ∷ name w ∷ []))

-- the kind of field that an entry is
abbrev pub entry_kind : Entry → Kind
entry_kind arm = Arm
entry_kind attribute = Attribute
entry_kind parameter = Parameter

-- the fields that stand for a default node
pub data Default : Node → Type 0 where
  by_default : {p : ℕ} → Default (leaf p 0x1b [])

module _ (types : Types) (S : List ℕ → Type 0) where
  -- ---- Symbols: Q holds of all that may come of them

  -- one field of a kind more
  abbrev pub Plus : Kind → (Build → Type 0) → Build → Type 0
  Plus kind Q (build b (frame q u g ks) fs) = (k : Node) → Of types S kind k → Q (build b (frame q u g (ks ▸ k)) fs)

  -- any number of them
  abbrev pub Any : Kind → (Build → Type 0) → Build → Type 0
  Any kind Q (build b (frame q u g ks) fs) = (js : Nodes) → More types S kind ks js → Q (build b (frame q u g js) fs)

  -- at least one of them
  abbrev pub Some : Kind → (Build → Type 0) → Build → Type 0
  Some kind Q (build b (frame q u g ks) fs) = (k : Node) → Of types S kind k → (js : Nodes) → More types S kind (ks ▸ k) js → Q (build b (frame q u g js) fs)

  -- a field of a kind before the others
  abbrev pub Front : Kind → (Build → Type 0) → Build → Type 0
  Front kind Q (build b (frame q u g ks) fs) = (k : Node) → Of types S kind k → Q (build b (frame q u g (in_front k ks)) fs)

  -- a default more
  abbrev pub PlusDefault : (Build → Type 0) → Build → Type 0
  PlusDefault Q (build b (frame q u g ks) fs) = (k : Node) → Default k → Q (build b (frame q u g (ks ▸ k)) fs)

  -- a name more
  abbrev pub PlusName : (Build → Type 0) → Build → Type 0
  PlusName Q (build b (frame q u g ks) fs) = (w : List ℕ) → Word S w → Q (build b (frame q u (g ++ (name w ∷ [])) ks) fs)

  -- the last field is an expression, and another may come in its place
  abbrev pub Last : (Build → Type 0) → Build → Type 0
  Last Q (build b (frame q u g empty) fs) = ⊥
  Last Q (build b (frame q u g (ks ▸ i)) fs) = Of types S Expression i × ((k : Node) → Of types S Expression k → Q (build b (frame q u g (ks ▸ k)) fs))

  -- the same of a bare word
  abbrev pub LastBare : (Build → Type 0) → Build → Type 0
  LastBare Q (build b (frame q u g empty) fs) = ⊥
  LastBare Q (build b (frame q u g (ks ▸ i)) fs) = Bare S i × ((k : Node) → Of types S Expression k → Q (build b (frame q u g (ks ▸ k)) fs))

  -- the field being read ends
  abbrev pub Closing : (Build → Type 0) → Build → Type 0
  Closing Q (build b f []) = Unit {0}
  Closing Q (build b (frame p t h ks) (frame q u g js ∷ fs)) = Q (build b (frame q u g (js ▸ node p t h ks)) fs)

  -- a bracket is opened
  abbrev pub Opened : (Build → Type 0) → Build → Type 0
  Opened Q (build b f fs) = Q (build (suc b) f fs)

  -- a bracket is closed
  abbrev pub Closed : (Build → Type 0) → Build → Type 0
  Closed Q (build zero f fs) = Unit {0}
  Closed Q (build (suc b) f fs) = Q (build b f fs)

  -- before one symbol
  abbrev pub Before : Symbol → (Build → Type 0) → Build → Type 0
  Before (sign s) Q f = Q f
  Before a_name Q f = PlusName Q f
  Before (expression l) Q f = Plus Expression Q f
  Before (operators l m) Q f = Last Q f
  Before read_or_word Q f = LastBare Q f
  Before close_bracket Q f = Closed Q f
  Before (one e) Q f = Some (entry_kind e) Q f
  Before (maybe e) Q f = Any (entry_kind e) Q f
  Before (further e) Q f = Any (entry_kind e) Q f
  Before statements Q f = Any Statement Q f
  Before block Q f = Plus Block Q f
  Before otherwise Q f = Plus Block Q f
  Before branches Q f = Any Branch Q f
  Before items Q f = Any Item Q f
  Before class_rest Q f = Plus Item Q f
  Before parameters Q f = Any Parameter Q f
  Before default_value Q f = Q f × Plus Constant Q f
  Before a_constant Q f = Plus Constant Q f
  Before inherits Q f = Q f × Front Parent Q f
  Before parent Q f = Front Parent Q f
  Before devices Q f = PlusDefault Q f × Some Device Q f
  Before device Q f = Some Device Q f
  Before more_devices Q f = Any Device Q f
  Before ends Q f = Closing Q f

  -- before some symbols
  abbrev pub BeforeAll : (Build → Type 0) → List Symbol → Build → Type 0
  BeforeAll Q [] f = Q f
  BeforeAll Q (s ∷ k) f = Before s (BeforeAll Q k) f

  -- ---- Actions, at the token x: Q holds of what they leave

  -- a field more
  abbrev pub With : Node → (Build → Type 0) → Build → Type 0
  With k Q (build b (frame q u g ks) fs) = Q (build b (frame q u g (ks ▸ k)) fs)

  -- a field more, before the others
  abbrev pub WithFirst : Node → (Build → Type 0) → Build → Type 0
  WithFirst k Q (build b (frame q u g ks) fs) = Q (build b (frame q u g (in_front k ks)) fs)

  -- a field begins
  abbrev pub Begun : (place tag : ℕ) → (Build → Type 0) → Build → Type 0
  Begun p t Q (build b f fs) = Q (build b (frame p t [] empty) (f ∷ fs))

  -- a field begins around the last one
  abbrev pub Around : (place tag : ℕ) → List Piece → (Build → Type 0) → Build → Type 0
  Around p t h Q (build b (frame q u g empty) fs) = Unit {0}
  Around p t h Q (build b (frame q u g (ks ▸ k)) fs) = Q (build b (frame p t h (empty ▸ k)) (frame q u g ks ∷ fs))

  -- a field begins in the place of the last one, with its name
  abbrev pub Instead : (tag : ℕ) → (Build → Type 0) → Build → Type 0
  Instead t Q (build b (frame q u g empty) fs) = Unit {0}
  Instead t Q (build b (frame q u g (ks ▸ node p v h js)) fs) = Q (build b (frame p t (behind_label h) empty) (frame q u g ks ∷ fs))

  -- a name more
  abbrev pub WithName : List ℕ → (Build → Type 0) → Build → Type 0
  WithName w Q (build b (frame q u g ks) fs) = Q (build b (frame q u (g ++ (name w ∷ [])) ks) fs)

  -- one action
  abbrev pub Doing : Action → Lexeme → (Build → Type 0) → Build → Type 0
  Doing (begin t) x Q f = Begun (place_of x) t Q f
  Doing begin_resource x Q f = Begun (place_of x) (resource_tag types (spelled (token_of x))) Q f
  Doing (around t h) x Q f = Around (place_of x) t h Q f
  Doing (instead t) x Q f = Instead t Q f
  Doing close x Q f = Closing Q f
  Doing constant x Q f = With (constant_node x) Q f
  Doing read x Q f = With (variable_node x) Q f
  Doing named x Q f = WithName (spelled (token_of x)) Q f
  Doing parent_first x Q f = WithFirst (leaf (place_of x) 0x35 (name (spelled (token_of x)) ∷ [])) Q f
  Doing (void t) x Q f = With (leaf (place_of x) t []) Q f
  Doing enter x Q f = Opened Q f
  Doing leave x Q f = Closed Q f

  -- some actions
  abbrev pub DoingAll : List Action → Lexeme → (Build → Type 0) → Build → Type 0
  DoingAll [] x Q f = Q f
  DoingAll (a ∷ ds) x Q f = Doing a x (DoingAll ds x Q) f
