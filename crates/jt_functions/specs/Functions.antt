-- The functions of the language.
use Rattle.std.specs.Prelude.{ℕ, Bool, true, false, List, [], ◌∷◌, Option, Some, None, option_map, if◌then◌else◌, is_some, codes}
use Rattle.jt_syntax.specs.Bytes.{same_bytes}
use Rattle.jt_functions.specs.declared.function.Arity.{Arity}
use Rattle.jt_functions.specs.declared.function.Function.{Function}
use Rattle.jt_functions.specs.declared.function.Function.TheVariants as function

abbrev pub takes : ℕ → ℕ → Arity
takes least most = record { least = least; most = most }

-- what a function is called, how many arguments it takes, and whether a call of it can be run today
pub record Row : Type 0 where
  pub name : List ℕ
  pub arity : Arity
  pub runs : Bool

abbrev pub row : List ℕ → ℕ → ℕ → Bool → Row
row name least most runs = record { name = name; arity = takes least most; runs = runs }

-- the table: name, least and greatest number of arguments, whether it runs
abbrev pub row_of : Function → Row
row_of function.Div = row (codes "div") 2 2 true
row_of function.Rem = row (codes "rem") 2 2 true
row_of function.Mod = row (codes "mod") 2 2 true
row_of function.Fetch = row (codes "fetch") 1 1 true
row_of function.Wait = row (codes "wait") 1 1 true
row_of function.Close = row (codes "close") 1 1 false
row_of function.IsOpen = row (codes "isopen") 1 1 false
row_of function.IsReady = row (codes "isready") 1 1 false
row_of function.Take = row (codes "take!") 1 1 false
row_of function.Notify = row (codes "notify") 1 1 false
row_of function.Reset = row (codes "reset") 1 1 false
row_of function.Lock = row (codes "lock") 1 1 false
row_of function.Unlock = row (codes "unlock") 1 1 false
row_of function.Acquire = row (codes "acquire") 1 1 false
row_of function.Release = row (codes "release") 1 1 false
row_of function.Put = row (codes "put!") 2 2 false
row_of function.AtomicAdd = row (codes "atomic_add!") 2 2 false
row_of function.AtomicSub = row (codes "atomic_sub!") 2 2 false
row_of function.AtomicXchg = row (codes "atomic_xchg!") 2 2 false
row_of function.AtomicCas = row (codes "atomic_cas!") 3 3 false
row_of function.Yield = row (codes "yield") 0 0 true
row_of function.Condition = row (codes "Condition") 0 0 false
row_of function.ReentrantLock = row (codes "ReentrantLock") 0 0 false
row_of function.Semaphore = row (codes "Semaphore") 1 1 false
row_of function.Event = row (codes "Event") 0 1 false

-- all of them
unfoldable pub language_functions : List Function
language_functions =
    function.Div ∷ function.Rem ∷ function.Mod ∷ function.Fetch ∷ function.Wait ∷ function.Close ∷ function.IsOpen ∷
    function.IsReady ∷ function.Take ∷ function.Notify ∷ function.Reset ∷ function.Lock ∷ function.Unlock ∷
    function.Acquire ∷ function.Release ∷ function.Put ∷ function.AtomicAdd ∷ function.AtomicSub ∷ function.AtomicXchg ∷
    function.AtomicCas ∷ function.Yield ∷ function.Condition ∷ function.ReentrantLock ∷ function.Semaphore ∷ function.Event ∷ []

-- the first of these with this name
abbrev pub named_in : List Function → List ℕ → Option Function
named_in [] x = None
named_in (f ∷ fs) x = if same_bytes (row_of f).name x then Some f else named_in fs x

-- the function of the language with this name
abbrev pub named : List ℕ → Option Function
named x = named_in language_functions x

abbrev pub is_language_function : List ℕ → Bool
is_language_function x = is_some (named x)

-- how many arguments the function of the language with this name takes
abbrev pub arity_of : List ℕ → Option Arity
arity_of x = option_map (λ f. (row_of f).arity) (named x)
