-- The headers that are built in.
use Rattle.std.specs.Prelude.{ℕ, List, [], ◌∷◌, ◌++◌, codes, Option, option_map, find}
use Rattle.std.specs.Str.{bytes_eq}

abbrev pub stdio_h : List ℕ
stdio_h =
    codes "#ifndef _FSC_STDIO_H\n" ++
    codes "#define _FSC_STDIO_H\n" ++
    codes "#ifndef _FSC_SIZE_T\n" ++
    codes "#define _FSC_SIZE_T\n" ++
    codes "typedef unsigned int size_t;\n" ++
    codes "#endif\n" ++
    codes "#define NULL 0\n" ++
    codes "#define EOF (-1)\n" ++
    codes "int putchar(int);\n" ++
    codes "int getchar(void);\n" ++
    codes "int puts(const char *);\n" ++
    codes "int printf(const char *, ...);\n" ++
    codes "#endif\n"

abbrev pub stdlib_h : List ℕ
stdlib_h =
    codes "#ifndef _FSC_STDLIB_H\n" ++
    codes "#define _FSC_STDLIB_H\n" ++
    codes "#ifndef _FSC_SIZE_T\n" ++
    codes "#define _FSC_SIZE_T\n" ++
    codes "typedef unsigned int size_t;\n" ++
    codes "#endif\n" ++
    codes "#define NULL 0\n" ++
    codes "#define RAND_MAX 32767\n" ++
    codes "#define EXIT_SUCCESS 0\n" ++
    codes "#define EXIT_FAILURE 1\n" ++
    codes "void *malloc(unsigned);\n" ++
    codes "void *calloc(unsigned, unsigned);\n" ++
    codes "void *realloc(void *, unsigned);\n" ++
    codes "void free(void *);\n" ++
    codes "void exit(int);\n" ++
    codes "void abort(void);\n" ++
    codes "int atoi(const char *);\n" ++
    codes "int abs(int);\n" ++
    codes "long labs(long);\n" ++
    codes "int rand(void);\n" ++
    codes "void srand(unsigned);\n" ++
    codes "#endif\n"

abbrev pub string_h : List ℕ
string_h =
    codes "#ifndef _FSC_STRING_H\n" ++
    codes "#define _FSC_STRING_H\n" ++
    codes "#ifndef _FSC_SIZE_T\n" ++
    codes "#define _FSC_SIZE_T\n" ++
    codes "typedef unsigned int size_t;\n" ++
    codes "#endif\n" ++
    codes "#define NULL 0\n" ++
    codes "void *memcpy(void *, const void *, unsigned);\n" ++
    codes "void *memmove(void *, const void *, unsigned);\n" ++
    codes "void *memset(void *, int, unsigned);\n" ++
    codes "int memcmp(const void *, const void *, unsigned);\n" ++
    codes "unsigned strlen(const char *);\n" ++
    codes "char *strcpy(char *, const char *);\n" ++
    codes "char *strncpy(char *, const char *, unsigned);\n" ++
    codes "char *strcat(char *, const char *);\n" ++
    codes "int strcmp(const char *, const char *);\n" ++
    codes "int strncmp(const char *, const char *, unsigned);\n" ++
    codes "char *strchr(const char *, int);\n" ++
    codes "char *strrchr(const char *, int);\n" ++
    codes "#endif\n"

abbrev pub ctype_h : List ℕ
ctype_h =
    codes "#ifndef _FSC_CTYPE_H\n" ++
    codes "#define _FSC_CTYPE_H\n" ++
    codes "int isdigit(int);\n" ++
    codes "int islower(int);\n" ++
    codes "int isupper(int);\n" ++
    codes "int isalpha(int);\n" ++
    codes "int isalnum(int);\n" ++
    codes "int isspace(int);\n" ++
    codes "int isprint(int);\n" ++
    codes "int isgraph(int);\n" ++
    codes "int iscntrl(int);\n" ++
    codes "int isxdigit(int);\n" ++
    codes "int ispunct(int);\n" ++
    codes "#endif\n"

abbrev pub stddef_h : List ℕ
stddef_h =
    codes "#ifndef _FSC_STDDEF_H\n" ++
    codes "#define _FSC_STDDEF_H\n" ++
    codes "#ifndef _FSC_SIZE_T\n" ++
    codes "#define _FSC_SIZE_T\n" ++
    codes "typedef unsigned int size_t;\n" ++
    codes "#endif\n" ++
    codes "#ifndef _FSC_PTRDIFF_T\n" ++
    codes "#define _FSC_PTRDIFF_T\n" ++
    codes "typedef int ptrdiff_t;\n" ++
    codes "#endif\n" ++
    codes "#define NULL 0\n" ++
    codes "#define offsetof(t,m) ((size_t)&((t*)0)->m)\n" ++
    codes "#endif\n"

abbrev pub stdarg_h : List ℕ
stdarg_h =
    codes "#ifndef _FSC_STDARG_H\n" ++
    codes "#define _FSC_STDARG_H\n" ++
    codes "#ifndef _FSC_VA_LIST\n" ++
    codes "#define _FSC_VA_LIST\n" ++
    codes "typedef char *va_list;\n" ++
    codes "#endif\n" ++
    codes "#define va_start(a,p) ((a)=__fsc_va())\n" ++
    codes "#define va_arg(a,t) (*(t*)(((a)+=4)-4))\n" ++
    codes "#define va_end(a) ((void)0)\n" ++
    codes "#endif\n"

abbrev pub assert_h : List ℕ
assert_h =
    codes "#undef assert\n" ++
    codes "#ifdef NDEBUG\n" ++
    codes "#define assert(e) ((void)0)\n" ++
    codes "#else\n" ++
    codes "#define assert(e) ((e)?(void)0:__fsc_abort())\n" ++
    codes "#endif\n"

abbrev pub limits_h : List ℕ
limits_h =
    codes "#ifndef _FSC_LIMITS_H\n" ++
    codes "#define _FSC_LIMITS_H\n" ++
    codes "#define CHAR_BIT 8\n" ++
    codes "#define SCHAR_MIN (-128)\n" ++
    codes "#define SCHAR_MAX 127\n" ++
    codes "#define UCHAR_MAX 255\n" ++
    codes "#define CHAR_MIN 0\n" ++
    codes "#define CHAR_MAX 255\n" ++
    codes "#define MB_LEN_MAX 1\n" ++
    codes "#define SHRT_MIN (-32768)\n" ++
    codes "#define SHRT_MAX 32767\n" ++
    codes "#define USHRT_MAX 65535\n" ++
    codes "#define INT_MIN (-2147483647-1)\n" ++
    codes "#define INT_MAX 2147483647\n" ++
    codes "#define UINT_MAX 4294967295u\n" ++
    codes "#define LONG_MIN (-2147483647l-1)\n" ++
    codes "#define LONG_MAX 2147483647l\n" ++
    codes "#define ULONG_MAX 4294967295ul\n" ++
    codes "#endif\n"

-- each header's name and text
unfoldable pub headers : List (List ℕ × List ℕ)
headers =
    (codes "stdio.h", stdio_h) ∷
    (codes "stdlib.h", stdlib_h) ∷
    (codes "string.h", string_h) ∷
    (codes "ctype.h", ctype_h) ∷
    (codes "stddef.h", stddef_h) ∷
    (codes "stdarg.h", stdarg_h) ∷
    (codes "assert.h", assert_h) ∷
    (codes "limits.h", limits_h) ∷
    []

-- the text beside a name
abbrev pub text_of : List ℕ → List (List ℕ × List ℕ) → Option (List ℕ)
text_of name entries = option_map (λ (entry : List ℕ × List ℕ). entry.1) (find (λ (entry : List ℕ × List ℕ). bytes_eq entry.0 name) entries)
