-- The kinds of instructions by number. Assumes nothing.
use Rattle.std.specs.Prelude.{ℕ, ◌<◌, ◌≡◌, Result, MatchResult}
use Rattle.run_reading.specs.declared.kind.Kind.{Kind}
use Rattle.run_reading.specs.declared.kind.Kind.TheVariants.{LoadLocal, LoadContext, DeclareLocal, DeclareContext, StoreLocal, StoreContext, Destructure, Primitive, JSXText, BinaryExpression, NewExpression, CallExpression, MethodCall, UnaryExpression, TypeCastExpression, JsxExpression, ObjectExpression, ObjectMethod, ArrayExpression, JsxFragment, RegExpLiteral, MetaProperty, PropertyStore, PropertyLoad, PropertyDelete, ComputedStore, ComputedLoad, ComputedDelete, LoadGlobal, StoreGlobal, FunctionExpression, TaggedTemplateExpression, TemplateLiteral, Await, GetIterator, IteratorNext, NextPropertyOf, PrefixUpdate, PostfixUpdate, Debugger, StartMemoize, FinishMemoize}
use Rattle.run_reading.specs.declared.kind.UnknownKind.{UnknownKind}

-- the word that stands for a kind
abbrev pub word_of : Kind → ℕ
word_of LoadLocal = 0
word_of LoadContext = 1
word_of DeclareLocal = 2
word_of DeclareContext = 3
word_of StoreLocal = 4
word_of StoreContext = 5
word_of Destructure = 6
word_of Primitive = 7
word_of JSXText = 8
word_of BinaryExpression = 9
word_of NewExpression = 10
word_of CallExpression = 11
word_of MethodCall = 12
word_of UnaryExpression = 13
word_of TypeCastExpression = 14
word_of JsxExpression = 15
word_of ObjectExpression = 16
word_of ObjectMethod = 17
word_of ArrayExpression = 18
word_of JsxFragment = 19
word_of RegExpLiteral = 20
word_of MetaProperty = 21
word_of PropertyStore = 22
word_of PropertyLoad = 23
word_of PropertyDelete = 24
word_of ComputedStore = 25
word_of ComputedLoad = 26
word_of ComputedDelete = 27
word_of LoadGlobal = 28
word_of StoreGlobal = 29
word_of FunctionExpression = 30
word_of TaggedTemplateExpression = 31
word_of TemplateLiteral = 32
word_of Await = 33
word_of GetIterator = 34
word_of IteratorNext = 35
word_of NextPropertyOf = 36
word_of PrefixUpdate = 37
word_of PostfixUpdate = 38
word_of Debugger = 39
word_of StartMemoize = 40
word_of FinishMemoize = 41

-- the contract of the conversion: the kind that a word stands for, or an error with a word that is none
abbrev pub Decodes : ℕ → Result Kind UnknownKind → Type 0
Decodes word r = MatchResult r (λ kind. word_of kind ≡ word) (λ e. (e.0 ≡ word) × (41 < word))
